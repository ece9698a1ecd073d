-- The number that its bytes stand for.
use Rattle.plan.specs.Plan.{planned_parent}
use Rattle.plan.proofs.PlannedNode.parent.Goals as goal

pub returns : goal.returns
unfolding planned_parent
returns c = c.from_le_bytes.ensures
