-- `test_steps::lent::copy` meets its contract. Assumes nothing.
use Rattle.test_steps.proofs.Setting.{copy_is}
use Rattle.test_steps.proofs.lent.copy.Goals as goal

pub returns : goal.returns
returns c = copy_is _ _ _ _ _ _ c.least.ensures c.least-count.ensures c.copy_run.ensures
