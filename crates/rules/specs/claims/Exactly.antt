-- Demand 1, when a call is refused: each call's tests written out in their order. A call answers a number exactly if the test of a row with that number holds and
-- none before it does.
use Rattle.std.specs.Prelude.{ℕ, zero, suc, ◌+◌, ◌-◌, ◌^◌, ◌<◌, Bool, true, false, not, ◌&&◌, ◌||◌, List, [], ◌∷◌, ◌↔◌, ◌⊎◌, ◌≡◌, length, eqb, leb, ltb, Option, None, Some}
use Rattle.rules.specs.Numbers.{root_number, max_ino, top_number, max_nodes, storage_for, index_of, number_of, NOENT, INVAL, TOOLONG, INODE, FULL, NOROOM, NOTFOUND, BADINDEX, BADMAP, BADSAVE, NOTFRESH, SMALL, BADOPT}
use Rattle.rules.specs.Bytes.{holds}
use Rattle.rules.specs.Utf8.{well_formed}
use Rattle.rules.specs.Path.{slash, rooted, too_long, is_dot, is_dots}
use Rattle.rules.specs.Tree.{Mount, is_none, is_known, child_in}
use Rattle.rules.specs.Instance.{flag_limit, Instance, live, tag_of, held_in, counter_of}
use Rattle.rules.specs.Create.{Creation, outside, create_rule}
use Rattle.rules.specs.Mount.{Request, needed}
use Rattle.rules.specs.Reached.{reached, reached_mount}
use Rattle.rules.specs.Saved.{encode, accepted, state_of}
use Rattle.rules.specs.StateRestore.{saved_state, fresh}
use Rattle.rules.specs.Calls.{Query, path_walk, get_rootfs, route, lookup, readdir, remap_attr_id, options, initialized, save_to_bytes, Call, mount, restore_mount, umount, set_remove_pseudo_root, restore_from_bytes, ask, rule}

-- a test, and the number that answers where it is the first that holds (R18)
pub record Test : Type 0 where
  pub holds : Bool
  pub number : ℕ

infix 20 ◌⟼◌
-- a test and its number
abbrev pub ◌⟼◌ : Bool → ℕ → Test
b ⟼ k = record { holds = b; number = k }

-- the first test that holds has the number k; where none holds, k is 0 (R18)
abbrev pub FirstIs : ℕ → List Test → Type 0
FirstIs k [] = k ≡ 0
FirstIs k (t ∷ ts) = ((t.holds ≡ true) × (k ≡ t.number)) ⊎ ((t.holds ≡ false) × FirstIs k ts)

-- a number is answered exactly then (R15, R18)
abbrev pub Decides : ℕ → List Test → Type 0
Decides code ts = (k : ℕ) → (code ≡ k) ↔ FirstIs k ts

-- more nodes than N, or numbers than there are; written out here too, so that a slip in `no_room` does not pass (R67)
abbrev pub lacks_room : Instance → List ℕ → Bool
lacks_room i path = ltb i.fixed.capacity (live i + needed i.tree path) || ltb top_number (i.tree.next + needed i.tree path)

-- the slots 1 to k are all held
unfoldable pub held_to : ℕ → Instance → Bool
held_to zero i = true
held_to (suc k) i = held_in i (suc k) && held_to k i

-- no index from 1 to 255 is free (R84)
abbrev pub no_index : Instance → Bool
no_index i = held_to 255 i

-- there is a mount, and the slot of its index is empty (R103, R105)
abbrev pub slot_empty : Instance → Option Mount → Bool
slot_empty i None = false
slot_empty i (Some m) = is_none (tag_of i m.index)

-- rows 1 to 7 of a mount (R68 to R74)
abbrev pub mount_tests : Instance → Request → List Test
mount_tests i r =
    (too_long r.path ⟼ TOOLONG)
    ∷ (not (well_formed r.path) ⟼ INVAL)
    ∷ (ltb max_ino r.largest ⟼ INODE)
    ∷ (rooted r.path && lacks_room i r.path ⟼ NOROOM)
    ∷ (no_index i ⟼ FULL)
    ∷ (not (rooted r.path) ⟼ INVAL)
    ∷ (ltb max_ino r.root ⟼ INODE)
    ∷ []

-- rows 1, 2, BADINDEX, 3, 4, 6, 7 of a restored mount (R91)
abbrev pub restore_mount_tests : Instance → ℕ → Request → List Test
restore_mount_tests i k r =
    (too_long r.path ⟼ TOOLONG)
    ∷ (not (well_formed r.path) ⟼ INVAL)
    ∷ (eqb k 0 ⟼ BADINDEX)
    ∷ (ltb max_ino r.largest ⟼ INODE)
    ∷ (rooted r.path && lacks_room i r.path ⟼ NOROOM)
    ∷ (not (rooted r.path) ⟼ INVAL)
    ∷ (ltb max_ino r.root ⟼ INODE)
    ∷ []

-- not UTF-8, then no leading slash, then more (R36)
abbrev pub path_tests : List ℕ → List Test → List Test
path_tests path ts = (not (well_formed path) ⟼ INVAL) ∷ (not (rooted path) ⟼ INVAL) ∷ ts

-- the number asked for is the root's, and the root has a mount (R105)
abbrev pub diverted : Instance → ℕ → Bool
diverted i x = eqb (number_of x) root_number && not (is_none i.tree.root)

-- the tests of each query (R47, R57 to R59, R63, R103, R105, R106, R125)
abbrev pub query_tests : Instance → Query → List Test
query_tests i (path_walk path) = path_tests path []
query_tests i (get_rootfs path) = path_tests path ((slot_empty i (reached_mount i (reached i path)) ⟼ NOTFOUND) ∷ [])
query_tests i (route x) =
    (eqb (index_of x) 0 && diverted i x && slot_empty i i.tree.root ⟼ NOENT)
    ∷ (not (eqb (index_of x) 0) && is_none (tag_of i (index_of x)) ⟼ NOENT)
    ∷ []
query_tests i (lookup x p) =
    (not (is_known i.tree.nodes x) ⟼ NOENT)
    ∷ (holds 0 p ⟼ INVAL)
    ∷ (not (well_formed p) ⟼ INVAL)
    ∷ (not (is_dot p) && not (is_dots p) && (holds slash p || is_none (child_in i.tree.nodes x p)) ⟼ NOENT)
    ∷ []
query_tests i (readdir q) =
    (eqb q.size 0 ⟼ 0)
    ∷ (not (is_known i.tree.nodes q.node) ⟼ NOENT)
    ∷ []
query_tests i (remap_attr_id out uid gid) = []
query_tests i options = []
query_tests i initialized = []
query_tests i (save_to_bytes buffer) = (ltb buffer (length (encode (saved_state i))) ⟼ SMALL) ∷ []

-- the tests of each call (R68 to R74, R91, R96, R128 to R131)
-- which saved bytes are accepted is said without tests in Proper.antt (R129)
abbrev pub tests : Instance → Call → List Test
tests i (mount r) = mount_tests i r
tests i (restore_mount k r) = restore_mount_tests i k r
tests i (umount path) =
    path_tests path ((is_none (reached i path) ⟼ NOTFOUND) ∷ (is_none (reached_mount i (reached i path)) ⟼ NOTFOUND) ∷ [])
tests i set_remove_pseudo_root = []
tests i (restore_from_bytes b) =
    (not (fresh i) ⟼ NOTFRESH)
    ∷ (not (accepted b) ⟼ BADSAVE)
    ∷ (outside i.fixed.known (state_of b).options.in_opts || outside i.fixed.known (state_of b).options.out_opts ⟼ BADOPT)
    ∷ (ltb i.fixed.capacity (1 + length (state_of b).nodes) ⟼ NOROOM)
    ∷ []
tests i (ask q) = query_tests i q

-- the tests of creation (R26, R28, R29, R30)
abbrev pub create_tests : ℕ → Creation → List Test
create_tests bytes q =
    (ltb q.capacity 1 ⟼ SMALL)
    ∷ (ltb max_nodes q.capacity ⟼ SMALL)
    ∷ (ltb bytes (storage_for q.capacity) ⟼ SMALL)
    ∷ (outside q.known q.options.in_opts ⟼ BADOPT)
    ∷ (outside q.known q.options.out_opts ⟼ BADOPT)
    ∷ (leb flag_limit q.options.flags ⟼ BADOPT)
    ∷ (ltb (2 ^ 32 - 1) (q.options.mapping.internal + q.options.mapping.range) ⟼ BADMAP)
    ∷ (ltb (2 ^ 32 - 1) (q.options.mapping.external + q.options.mapping.range) ⟼ BADMAP)
    ∷ []

-- of every call on every instance, and of creation (R15, R18)
abbrev pub Exactly : Type 0
Exactly = ((i : Instance) → counter_of i < 256 → (c : Call) → Decides (rule i c).code (tests i c)) × ((bytes : ℕ) (q : Creation) → Decides (create_rule bytes q) (create_tests bytes q))
