-- The number that its bytes stand for.
use Rattle.plan.specs.Plan.{planned_start}
use Rattle.plan.proofs.PlannedNode.start.Goals as goal

pub returns : goal.returns
unfolding planned_start
returns c = c.from_le_bytes.ensures
