-- The nodes of the pseudo tree, the walk along a path, and the mount walk, which makes what is missing. All of it for any rows.
use Rattle.std.specs.Prelude.{ℕ, ◌+◌, Bool, true, false, cond, ◌&&◌, ◌||◌, not, List, [], ◌∷◌, ◌++◌, length, eqb, Option, None, Some}
use Rattle.rules.specs.Bytes.{same}
use Rattle.rules.specs.Numbers.{root_number}
use Rattle.rules.specs.Path.{Part, Normal, ParentDir}

-- a mount on a node, with the numbers as the request brought them (R3)
pub record Mount : Type 0 where
  pub index : ℕ
  pub root : ℕ
  pub uid : ℕ
  pub gid : ℕ
  pub mode : ℕ

-- a node: its number, its parent, its name, the mount on it; the root is none of them (R12, R44)
pub record Node : Type 0 where
  pub number : ℕ
  pub parent : ℕ
  pub name : List ℕ
  pub mount : Option Mount

-- there is none
abbrev pub is_none : {A : Type 0} → Option A → Bool
is_none None = true
is_none (Some a) = false

-- ---- finding: of several nodes that fit, the first is meant

-- the node has that parent and that name, byte for byte (R45)
unfoldable pub is_child : ℕ → List ℕ → Node → Bool
is_child here p n = eqb n.parent here && same n.name p

-- the number of the child of that name: the first in table order (R45)
unfoldable pub child_in : List Node → ℕ → List ℕ → Option ℕ
child_in [] here p = None
child_in (n ∷ ns) here p = cond (is_child here p n) (Some n.number) (child_in ns here p)

-- the node of that number: the first in table order (R53)
unfoldable pub node_in : List Node → ℕ → Option Node
node_in [] x = None
node_in (n ∷ ns) x = cond (eqb n.number x) (Some n) (node_in ns x)

-- the number is the root's, before any row is asked, or a node's (R52, R57)
unfoldable pub is_known : List Node → ℕ → Bool
is_known nodes x = eqb x root_number || not (is_none (node_in nodes x))

-- the parent of a node; of none it is the root (R54)
abbrev pub parent_of : Option Node → ℕ
parent_of None = root_number
parent_of (Some n) = n.parent

-- the parent's number, also where that parent was removed (R58, R102); of the root (R12, R39, R52) and of a number that is no node (R54) it is the root's
unfoldable pub parent_in : List Node → ℕ → ℕ
parent_in nodes x = cond (eqb x root_number) root_number (parent_of (node_in nodes x))

-- the children, in table order, which is the order in which they were made (R44)
unfoldable pub children_in : List Node → ℕ → List Node
children_in [] x = []
children_in (n ∷ ns) x = cond (eqb n.parent x) (n ∷ children_in ns x) (children_in ns x)

-- ---- the walk

-- none stays none
abbrev pub onward : {A B : Type 0} → Option A → (A → Option B) → Option B
onward None f = None
onward (Some a) f = f a

-- from a node on, one component after another, to the node where it ends; a missing name answers none (R39, R46, R47, R55)
unfoldable pub walk : List Node → ℕ → List Part → Option ℕ
walk nodes here [] = Some here
walk nodes here (ParentDir at ∷ ps) = walk nodes (parent_in nodes here) ps
walk nodes here (Normal at p ∷ ps) = onward (child_in nodes here p) (λ (x : ℕ). walk nodes x ps)

-- ---- the mount walk

-- the nodes made so far, and the node where the walk stands (R48)
pub record Made : Type 0 where
  pub nodes : List Node
  pub here : ℕ

-- a new node has no mount (R48)
abbrev pub bare : ℕ → ℕ → List ℕ → Node
bare x parent p = record { number = x; parent = parent; name = p; mount = None }

-- the child that was found, or a new node with the next number, last of all (R48, R49)
abbrev pub or_make : ℕ → Made → List ℕ → Option ℕ → Made
or_make next m p (Some x) = record { nodes = m.nodes; here = x }
or_make next m p None =
    let x = next + length m.nodes in
    record { nodes = m.nodes ++ (bare x m.here p ∷ []); here = x }

-- one component, over the live nodes and those made; the k-th made has the number next + k (R38, R39, R48, R50)
unfoldable pub mount_step : List Node → ℕ → Made → Part → Made
mount_step live next m (ParentDir at) = record { nodes = m.nodes; here = parent_in (live ++ m.nodes) m.here }
mount_step live next m (Normal at p) = or_make next m p (child_in (live ++ m.nodes) m.here p)

-- the mount walk: every component in order, also behind `..`; one step for each (R38, R48, R55)
unfoldable pub makes : List Node → ℕ → Made → List Part → Made
makes live next m [] = m
makes live next m (p ∷ ps) = makes live next (mount_step live next m p) ps

-- the walk starts at the root, with nothing made (R48)
abbrev pub at_root : Made
at_root = record { nodes = []; here = root_number }

-- ---- mounts and removal

-- the node with that mount, or with none
abbrev pub with_mount : Option Mount → Node → Node
with_mount m n = record { number = n.number; parent = n.parent; name = n.name; mount = m }

-- the node of that number, the first in table order, has that mount (R53)
unfoldable pub nodes_with_mount : Option Mount → List Node → ℕ → List Node
nodes_with_mount m [] x = []
nodes_with_mount m (n ∷ ns) x = cond (eqb n.number x) (with_mount m n ∷ ns) (n ∷ nodes_with_mount m ns x)

-- the node of that number, the first in table order, is gone; the others stay, in their order (R44, R53, R101)
unfoldable pub without : List Node → ℕ → List Node
without [] x = []
without (n ∷ ns) x = cond (eqb n.number x) ns (n ∷ without ns x)
