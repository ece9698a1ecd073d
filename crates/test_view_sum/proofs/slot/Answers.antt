-- `test_view_sum::slot` meets its contract: held or not. Assumes nothing.
use Rattle.test_view_sum.proofs.Viewing.{slot_none, slot_some}
use Rattle.test_view_sum.proofs.slot.Goals as goal

pub returns-then-held-eq0 : goal.returns-then-held-eq0
returns-then-held-eq0 c = slot_none _ _ _ _ _ c.byte_at-held.ensures c.flag-a.ensures c.if-held-eq0.true

pub returns : goal.returns
returns c = slot_some _ _ _ _ _ c.byte_at-held.ensures c.flag-a.ensures _ c.if-held-eq0.false c.run.ensures
