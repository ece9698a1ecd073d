-- Walk: the check of a path, the node that it leads to, and the mount there. Unmount and root query begin with it.
use Rattle.std.specs.Prelude.{ℕ, Bool, not, ◌||◌, List, [], ◌∷◌, Option, None, Some}
use Rattle.rules.specs.Numbers.{root_number, INVAL}
use Rattle.rules.specs.Utf8.{well_formed}
use Rattle.rules.specs.Path.{components, rooted}
use Rattle.rules.specs.Tree.{Mount, walk}
use Rattle.rules.specs.Instance.{Instance, mount_of_node}
use Rattle.rules.specs.Outcome.{walked, Outcome, refused, says, ◌⟹◌, first_of}

-- the whole path is checked first, then its leading slash; its length and byte 0 are free (R36, R41, R42, R43)
unfoldable pub bad_path : List ℕ → Bool
bad_path path = not (well_formed path) || not (rooted path)

-- the node that the path leads to, from the root (R46)
unfoldable pub reached : Instance → List ℕ → Option ℕ
reached i path = walk i.tree.nodes root_number (components 0 path)

-- the mount on the node that was reached
abbrev pub reached_mount : Instance → Option ℕ → Option Mount
reached_mount i None = None
reached_mount i (Some x) = mount_of_node i.tree x

-- INVAL, or the node, or none (R46, R47)
unfoldable pub walk_rule : Instance → List ℕ → Outcome
walk_rule i path = first_of ((bad_path path ⟹ refused INVAL i) ∷ []) (says (walked (reached i path)) i)
