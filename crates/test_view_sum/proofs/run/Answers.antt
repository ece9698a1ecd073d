-- `test_view_sum::run` meets its contract. Assumes nothing.
use Rattle.test_view_sum.proofs.Viewing.{run_is}
use Rattle.test_view_sum.proofs.run.Goals as goal

pub returns : goal.returns
returns c = run_is _ _ _ _ _ _ _ c.min-from.ensures c.min.ensures c.with_run.ensures
