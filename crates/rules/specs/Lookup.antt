-- Routing, lookup in a pseudo directory across mounts, and ids by the mapping in force.
use Rattle.std.specs.Prelude.{ℕ, Bool, true, false, cond, not, ◌||◌, List, [], ◌∷◌, eqb, Option, None, Some}
use Rattle.rules.specs.Numbers.{root_number, dir_mode, block_size, full, index_of, number_of, NOENT, INVAL}
use Rattle.rules.specs.Bytes.{holds}
use Rattle.rules.specs.Utf8.{well_formed}
use Rattle.rules.specs.Path.{slash, is_dot, is_dots}
use Rattle.rules.specs.Ids.{mapped, unmapped}
use Rattle.rules.specs.Tree.{Mount, child_in, is_known, parent_in}
use Rattle.rules.specs.Instance.{Instance, tag_of, mount_of_node}
use Rattle.rules.specs.Outcome.{to_tree, to_backend, entry, ids, Outcome, refused, says, ◌⟹◌, first_of}

-- ---- routing, of a full number

-- an index to its tag, or NOENT where its slot is empty (R105, R106)
unfoldable pub route_tag : Instance → ℕ → ℕ → Option ℕ → Outcome
route_tag i k number None = refused NOENT i
route_tag i k number (Some t) = says (to_backend t k number) i

-- index 0: number 1 with a mount on the root goes there, all else to the tree, known or not (R105, R107)
unfoldable pub route_tree : Instance → ℕ → Option Mount → Outcome
route_tree i x None = says (to_tree x) i
route_tree i x (Some m) = cond (eqb x root_number) (route_tag i m.index m.root (tag_of i m.index)) (says (to_tree x) i)

-- by the index of the full number (R60, R105, R106)
unfoldable pub route_rule : Instance → ℕ → Outcome
route_rule i x =
    cond (eqb (index_of x) 0)
    (route_tree i (number_of x) i.tree.root)
    (route_tag i (index_of x) (number_of x) (tag_of i (index_of x)))

-- ---- lookup, of a node number and a name

-- an id by the mapping in force (R118)
abbrev pub outward : Instance → ℕ → ℕ
outward i id = mapped i.fixed.mapping id

-- the stored root entry has its ids mapped once; a lookup maps them again (R77, R108)
abbrev pub twice : Instance → ℕ → ℕ
twice i id = outward i (outward i id)

-- the entry of a node that was found: the pseudo entry (R13, R110), or by the mount on it the root entry, whether or not its slot is held (R108, R109, R111)
unfoldable pub entry_of : Instance → ℕ → Option Mount → Outcome
entry_of i x None = says (entry (full 0 x) dir_mode (outward i 0) (outward i 0) block_size) i
entry_of i x (Some m) = says (entry (full m.index m.root) m.mode (twice i m.uid) (twice i m.gid) 0) i

-- a find is answered by its entry, a miss is NOENT (R57, R59); `mounts` gives the mount on a node
unfoldable pub entry_at : (ℕ → Option Mount) → Instance → Option ℕ → Outcome
entry_at mounts i None = refused NOENT i
entry_at mounts i (Some x) = entry_of i x (mounts x)

-- in a directory: unknown parent, then a bad name, then `.` and `..`, then a name with a slash, then the children (R57, R58, R59)
unfoldable pub lookup_by : (ℕ → Option Mount) → Instance → ℕ → List ℕ → Outcome
lookup_by mounts i x p =
    first_of
    ((not (is_known i.tree.nodes x) ⟹ refused NOENT i)
    ∷ (holds 0 p || not (well_formed p) ⟹ refused INVAL i)
    ∷ (is_dot p ⟹ entry_at mounts i (Some x))
    ∷ (is_dots p ⟹ entry_at mounts i (Some (parent_in i.tree.nodes x)))
    ∷ (holds slash p ⟹ refused NOENT i)
    ∷ [])
    (entry_at mounts i (child_in i.tree.nodes x p))

-- with the mounts of the tree (R108 to R111)
unfoldable pub lookup_rule : Instance → ℕ → List ℕ → Outcome
lookup_rule i x p = lookup_by (mount_of_node i.tree) i x p

-- ---- ids

-- out or back, by the mapping in force (R113, R114, R118)
abbrev pub remapped : Bool → Instance → ℕ → ℕ
remapped true i id = mapped i.fixed.mapping id
remapped false i id = unmapped i.fixed.mapping id

-- uid and gid by the mapping in force (R118)
unfoldable pub remap_rule : Instance → Bool → ℕ → ℕ → Outcome
remap_rule i out uid gid = says (ids (remapped out i uid) (remapped out i gid)) i
