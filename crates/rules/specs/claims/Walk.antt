-- What a mount walk makes, and where it ends.
use Rattle.std.specs.Prelude.{ℕ, ◌+◌, true, false, List, [], ◌++◌, ◌≡◌, length, Some}
use Rattle.rules.specs.Utf8.{well_formed}
use Rattle.rules.specs.Path.{too_long}
use Rattle.rules.specs.Tree.{Node, Made}
use Rattle.rules.specs.Instance.{Tree, Instance}
use Rattle.rules.specs.Mount.{planned}
use Rattle.rules.specs.Reached.{reached}
use Rattle.rules.specs.StateRestore.{saved_nodes}
use Rattle.rules.specs.claims.Driven.{Shape, Rooted}

-- with the nodes made the shape is kept, and live nodes lead from its end up to the root
pub record Walking (live : List Node) (next : ℕ) (m : Made) : Type 0 where
  pub shape : Shape (saved_nodes (live ++ m.nodes)) (next + length m.nodes)
  pub reached : Rooted (live ++ m.nodes) m.here

-- so it is of a path that rows 1 and 2 of a mount let pass (R48, R49, R68, R69)
abbrev pub PlannedWalking : Type 0
PlannedWalking = (t : Tree) (path : List ℕ) → Shape (saved_nodes t.nodes) t.next → too_long path ≡ false → well_formed path ≡ true → Walking t.nodes t.next (planned t path)

-- along a path that leads to a node already nothing is made, and the mount walk ends at that node; on any tables (R48, R50)
abbrev pub PlannedNone : Type 0
PlannedNone = (i : Instance) (path : List ℕ) (x : ℕ) → reached i path ≡ Some x → planned i.tree path ≡ record { nodes = []; here = x }
