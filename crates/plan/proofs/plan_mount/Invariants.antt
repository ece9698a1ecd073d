-- The invariant is `Going`: what is planned, and the walk from here on, make what the whole walk makes.
use Prim.Native.Nat.{◌-◌}
use lib.ListN.{length}
use Rattle.plan.proofs.Going.{Going}
use Rattle.plan.proofs.plan_mount.Given as goal

abbrev pub invariant-loop-c : goal.invariant-loop-c
invariant-loop-c l = Going l.s l.path l.nodes l.count l.node l.at

abbrev pub decreases-loop-c : goal.decreases-loop-c
decreases-loop-c l = length l.path - l.at
