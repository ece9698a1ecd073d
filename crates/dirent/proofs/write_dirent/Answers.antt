-- One law where the record fits, one where it does not.
use Rattle.std.proofs.Common.{arith}
use Rattle.dirent.proofs.Records.{entry_out, entry_run}
use Rattle.dirent.proofs.write_dirent.Goals as goal

pub returns-then-out-size : goal.returns-then-out-size
returns-then-out-size c = entry_out _ _ _ _ (omega (arith, c.whole-size.ensures))

pub returns : goal.returns
returns c =
    entry_run _ _ _ _ _ _ _ _ c.whole-size.ensures (omega arith) c.put_front.ensures c.copy_at.ensures c.fill_at.ensures
