-- `test_view_sum::row` meets its contract. Assumes nothing.
use Rattle.test_view_sum.proofs.Viewing.{row_is}
use Rattle.test_view_sum.proofs.row.Goals as goal

pub returns : goal.returns
returns c = row_is _ _ _ _ _ _ _ _ _ _ c.run-a.ensures c.run-b.ensures c.byte_at.ensures c.mount-c.ensures c.byte_at-len.ensures c.name.ensures
