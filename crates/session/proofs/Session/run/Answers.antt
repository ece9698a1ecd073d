-- The turns so far have led to here, and one more.
use Rattle.session.proofs.Feeding.{running_start, running_more, ran}
use Rattle.session.proofs.Session.run.Goals as goal

pub loop-init : goal.loop-init
loop-init c = running_start _ _ _ _

pub returns-then-not-turn : goal.returns-then-not-turn
returns-then-not-turn c = ran _ _ _ _ _ _ _ c.loop.invariant _ _ _ _ _ _ _ c.turn.ensures c.if-not-turn.true

pub loop-preserved : goal.loop-preserved
loop-preserved c = running_more _ _ _ _ _ _ _ c.loop.invariant _ _ _ _ _ _ _ c.turn.ensures c.if-not-turn.false
