-- `test_view_sum::mount` meets its contract: by its index. Assumes nothing.
use Rattle.test_view_sum.proofs.Viewing.{mount_none, mount_some}
use Rattle.test_view_sum.proofs.mount.Goals as goal

pub returns-then-index-eq0 : goal.returns-then-index-eq0
returns-then-index-eq0 c = mount_none _ _ _ _ _ _ _ _ c.flag-a.ensures c.if-index-eq0.true

pub returns : goal.returns
returns c = mount_some _ _ _ _ _ _ _ _ c.flag-a.ensures _ _ _ _ c.if-index-eq0.false c.run-b.ensures c.run-c.ensures c.run-d.ensures c.run.ensures
