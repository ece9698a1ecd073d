-- `test_steps::lent::fill` meets its contract. Assumes nothing.
use Rattle.test_steps.proofs.Setting.{fill_is}
use Rattle.test_steps.proofs.lent.fill.Goals as goal

pub returns : goal.returns
returns c = fill_is _ _ _ _ _ c.least-from.ensures c.least-count.ensures c.args.b _ c.fill_at.ensures
