-- The plan has what the path lacks; or there is no room.
use Rattle.std.proofs.lemmas.Result.{err_from_is_err_and}
use Rattle.rooted_mount.proofs.PlanWays.{no_room_back}
use Rattle.rooted_mount.proofs.restored_mounting.restore_mount_new.Goals as goal

pub returns-in_err-end : goal.returns-in_err-end
returns-in_err-end c =
    let p = err_from_is_err_and c.from_residual.result c.from_residual.ensures.1 in
    let e = c.in_err-end.ensures in
    rw (p.1, p.2, e.0) (no_room_back _ _ _ _ c.requires.s_value e.1)
