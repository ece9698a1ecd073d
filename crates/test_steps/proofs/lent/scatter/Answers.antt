-- `test_steps::lent::scatter` meets its contract. The invariant: with the bytes that are left to draw all will stand. Assumes nothing.
use Rattle.std.proofs.Common.{ℕ, arith}
use Rattle.std.proofs.Math.ListN.{length-take, length-drop}
use Rattle.test_steps.proofs.Setting.{left_all, left_more, left_none, scattered}
use Rattle.test_steps.proofs.lent.scatter.Goals as goal

pub loop-b-init : goal.loop-b-init
loop-b-init c = left_all _ _ _ (omega (arith, length-take {A = ℕ}, length-drop {A = ℕ}))

pub loop-b-preserved : goal.loop-b-preserved
loop-b-preserved c = left_more _ _ _ _ _ c.loop-b.invariant _ _ (omega arith) c.following-x.ensures c.low8.ensures

pub returns : goal.returns
returns c = scattered _ _ _ _ _ _ _ c.least-from.ensures c.least-count.ensures (left_none _ _ _ _ _ c.loop-b.invariant (omega arith))
