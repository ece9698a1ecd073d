-- What is left is the end of the planned nodes, and decides.
use lib.ListN.{length}
use Rattle.plan.proofs.PlannedNodes.{Left}
use Rattle.plan.proofs.find_planned.Given as goal

abbrev pub invariant-loop-rest : goal.invariant-loop-rest
invariant-loop-rest l = Left l.path l.next l.planned l.here l.name l.rest

abbrev pub decreases-loop-rest : goal.decreases-loop-rest
decreases-loop-rest l = length l.rest
