-- `test_expand::put_run` meets its contract. Assumes nothing.
use Rattle.test_expand.proofs.Expanding.{wrote_run}
use Rattle.test_expand.proofs.put_run.Goals as goal

pub returns : goal.returns
returns c = wrote_run _ _ _ _ c.min-n.ensures c.copy_from_slice.ensures.after
