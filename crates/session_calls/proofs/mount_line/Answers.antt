-- `session_calls::mount_line` meets its contract.
use Rattle.session_calls.proofs.Lines.{mount_answered}
use Rattle.session_calls.proofs.mount_line.Goals as goal

pub returns : goal.returns
returns c = mount_answered _ _ _ _ _ _ _ _ _ c.mount.ensures c.put_mounted.ensures
