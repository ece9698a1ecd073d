-- `test_steps::lent::scatter` meets its contract. The invariant: with the bytes that are left to draw all will stand. Assumes nothing.
use Rattle.test_steps.proofs.Setting.{Left}
use Rattle.test_steps.proofs.lent.scatter.Given as goal

abbrev pub invariant-loop-b : goal.invariant-loop-b
invariant-loop-b l = Left l.count l.seed l.b-items l.x l.b-index
