-- Mount and restored mount.
use Rattle.std.specs.Prelude.{ℕ, ◌+◌, Bool, not, ◌&&◌, ◌||◌, List, [], ◌∷◌, length, set, eqb, ltb, Option, None, Some}
use Rattle.rules.specs.Numbers.{max_ino, top_number, TOOLONG, INVAL, INODE, FULL, NOROOM, BADINDEX}
use Rattle.rules.specs.Utf8.{well_formed}
use Rattle.rules.specs.Path.{components, rooted, too_long}
use Rattle.rules.specs.Tree.{Mount, Made, makes, at_root}
use Rattle.rules.specs.Round.{Allocation, allocate}
use Rattle.rules.specs.Instance.{Slot, Tree, Instance, with_tree, with_counter, with_slots, with_slot, empty_slot, held_by, tag_of, held_in, mount_of_node, set_mount, grown, live}
use Rattle.rules.specs.Outcome.{Answer, nothing, mounted, restored_mount, Outcome, refused, says, ◌⟹◌, first_of}

-- a mount request: a path, a tag, the root number, the largest number, uid, gid and mode (R3)
pub record Request : Type 0 where
  pub path : List ℕ
  pub tag : ℕ
  pub root : ℕ
  pub largest : ℕ
  pub uid : ℕ
  pub gid : ℕ
  pub mode : ℕ

-- ---- the mount walk

-- what the mount walk makes, and the node where it ends (R48)
unfoldable pub planned : Tree → List ℕ → Made
planned t path = makes t.nodes t.next at_root (components 0 path)

-- the number of nodes that the mount walk would make (R50)
unfoldable pub needed : Tree → List ℕ → ℕ
needed t path = length (planned t path).nodes

-- live plus needed nodes exceed N, or the next number plus needed exceeds 2^56 (R67)
unfoldable pub no_room : Instance → List ℕ → Bool
no_room i path = ltb i.fixed.capacity (live i + needed i.tree path) || ltb top_number (i.tree.next + needed i.tree path)

-- the node where the mount walk ends
abbrev pub ended : Instance → List ℕ → ℕ
ended i path = (planned i.tree path).here

-- the nodes made are live (R48)
abbrev pub walked_to : List ℕ → Instance → Instance
walked_to path i = with_tree (grown (planned i.tree path).nodes i.tree) i

-- the mount on the node where the path ends
abbrev pub ended_mount : Instance → List ℕ → Option Mount
ended_mount i path = mount_of_node (walked_to path i).tree (ended i path)

-- ---- the change

-- a mount that was there loses its index: its slot is emptied (R56, R76)
unfoldable pub freed_slots : Option Mount → List Slot → List Slot
freed_slots None slots = slots
freed_slots (Some m) slots = set slots m.index empty_slot

-- in an instance
abbrev pub freed : Option Mount → Instance → Instance
freed m i = with_slots (freed_slots m i.indexes.slots) i

-- the tag that a mount's index holds, whoever put it there (R78)
unfoldable pub tag_at : Option Mount → Instance → Option ℕ
tag_at None i = None
tag_at (Some m) i = tag_of i m.index

-- the mount of a request at an index; the numbers are converted and mapped where they are answered (R77, R108)
abbrev pub requested_mount : ℕ → Request → Mount
requested_mount k r = record { index = k; root = r.root; uid = r.uid; gid = r.gid; mode = r.mode }

-- the old index is freed before the new tag is set, and the mount is on the node (R76, R93)
unfoldable pub placed : ℕ → Request → ℕ → Instance → Instance
placed k r x i =
    let j = freed (mount_of_node i.tree x) i in
    with_slot k (held_by r.tag) (with_tree (set_mount j.tree x (Some (requested_mount k r))) j)

-- ---- mount

-- the allocation of a mount: the search by value, with the slots as they are before it (R90)
unfoldable pub allocation : Instance → Allocation
allocation i = allocate (held_in i) i.indexes.counter

-- the counter has moved (R83)
abbrev pub stepped : Instance → Instance
stepped i = with_counter (allocation i).counter i

-- with the allocation that the instance before gives: refused or done, its index is handed out and its visits count (R79, R85)
abbrev pub allocated : Instance → ℕ → Answer → Instance → Outcome
allocated i code a j = record { code = code; answer = a; visits = (allocation i).visits; found = (allocation i).found; written = []; after = j }

-- rows 5 to 8, by what the allocation found: FULL, INVAL, INODE, done (R72 to R79)
unfoldable pub mount_by_index : Instance → Request → Option ℕ → Outcome
mount_by_index i r None = allocated i FULL nothing (stepped i)
mount_by_index i r (Some k) =
    first_of
    ((not (rooted r.path) ⟹ allocated i INVAL nothing (stepped i))
    ∷ (ltb max_ino r.root ⟹ allocated i INODE nothing (walked_to r.path (stepped i)))
    ∷ [])
    (allocated i 0 (mounted k (tag_at (ended_mount i r.path) i)) (placed k r (ended i r.path) (walked_to r.path (stepped i))))

-- rows 1 to 4, which visit nothing: TOOLONG, INVAL, INODE, NOROOM; then the rest (R68 to R71, R79)
unfoldable pub mount_rule : Instance → Request → Outcome
mount_rule i r =
    first_of
    ((too_long r.path ⟹ refused TOOLONG i)
    ∷ (not (well_formed r.path) ⟹ refused INVAL i)
    ∷ (ltb max_ino r.largest ⟹ refused INODE i)
    ∷ (rooted r.path && no_room i r.path ⟹ refused NOROOM i)
    ∷ [])
    (mount_by_index i r (allocation i).found)

-- ---- restored mount: no allocation

-- rows 7 and 8 with the index given: INODE, done; the counter stays; what then still stands in the slot is displaced (R92 to R95)
unfoldable pub restore_mount_by_index : Instance → ℕ → Request → Outcome
restore_mount_by_index i k r =
    first_of
    ((ltb max_ino r.root ⟹ refused INODE (walked_to r.path i)) ∷ [])
    (let old = ended_mount i r.path in
    says (restored_mount (tag_at old i) (tag_of (freed old i) k)) (placed k r (ended i r.path) (walked_to r.path i)))

-- rows 1, 2, BADINDEX, 3, 4 and 6, which change nothing; then the rest (R91)
unfoldable pub restore_mount_rule : Instance → ℕ → Request → Outcome
restore_mount_rule i k r =
    first_of
    ((too_long r.path ⟹ refused TOOLONG i)
    ∷ (not (well_formed r.path) ⟹ refused INVAL i)
    ∷ (eqb k 0 ⟹ refused BADINDEX i)
    ∷ (ltb max_ino r.largest ⟹ refused INODE i)
    ∷ (rooted r.path && no_room i r.path ⟹ refused NOROOM i)
    ∷ (not (rooted r.path) ⟹ refused INVAL i)
    ∷ [])
    (restore_mount_by_index i k r)
