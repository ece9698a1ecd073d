-- The nodes that the path of a mount lacks, and where it ends.
use Rattle.std.specs.Prelude.{ℕ, false, List, ◌≡◌, length}
use Rattle.rules.specs.Mount.{planned, no_room, ended}
use Rattle.tables.specs.Layout.{next_of}
use Rattle.tables.specs.View.{view}
use Rattle.plan.specs.Plan.{planned_from, Within}
use Rattle.plan.specs.declared.PlannedNode.{PlannedNode}

-- the path lacks these nodes, each named within it, and there is room for them; it ends at the node x (R48, R50, R67)
pub record Lacks (mem path : List ℕ) (t : List PlannedNode) (x : ℕ) : Type 0 where
  pub room : no_room (view mem) path ≡ false
  pub nodes : planned_from path (next_of mem) t 0 (length t) ≡ (planned (view mem).tree path).nodes
  pub ends : x ≡ ended (view mem) path
  pub named : Within path t (length t)
