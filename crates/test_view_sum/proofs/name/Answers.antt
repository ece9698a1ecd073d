-- `test_view_sum::name` meets its contract: by its length. Assumes nothing.
use Rattle.test_view_sum.proofs.Viewing.{name_short, name_long}
use Rattle.test_view_sum.proofs.name.Goals as goal

pub returns-then-len-le7 : goal.returns-then-len-le7
returns-then-len-le7 c = name_short _ _ _ _ _ _ _ c.run-a.ensures _ c.if-len-le7.true c.run.ensures

pub returns : goal.returns
returns c = name_long _ _ _ _ _ _ _ c.run-a.ensures _ _ c.if-len-le7.false c.run-b.ensures c.run-2.ensures
