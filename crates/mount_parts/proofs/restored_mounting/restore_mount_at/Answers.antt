-- `mount_parts::restored_mounting::restore_mount_at` meets its contract: each way through it by its law.
use Rattle.std.proofs.lemmas.Result.{err_from_is_err_and}
use Rattle.rules.specs.Outcome.{restored_mount}
use Rattle.mount_parts.proofs.MountWays.{ends}
use Rattle.mount_parts.proofs.restored_mounting.restore_mount_at.Goals as goal

pub returns-in_err-tags : goal.returns-in_err-tags
returns-in_err-tags c =
    let p = err_from_is_err_and c.from_residual.result c.from_residual.ensures.1 in
    rw (p.1, p.2) (ends _ _ _ _ _ _ c.in_err-tags.ensures restored_mount _)

pub returns : goal.returns
returns c = ends _ _ _ _ _ _ c.in_ok-tags.ensures restored_mount _
