-- `session_calls::umount_line` meets its contract.
use Rattle.session_calls.proofs.Lines.{umount_answered}
use Rattle.session_calls.proofs.umount_line.Goals as goal

pub returns : goal.returns
returns c = umount_answered _ _ _ _ _ _ c.umount.ensures c.put_unmounted.ensures
