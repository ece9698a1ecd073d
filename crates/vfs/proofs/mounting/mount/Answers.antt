-- `vfs::mounting::mount` meets its contract: each way through it by its law.
use mathlib.Core.Path.{sym}
use Rattle.std.specs.Prelude.{Err}
use Rattle.std.proofs.lemmas.Result.{err_from_is_err_and}
use Rattle.vfs.proofs.FirstRows.{stopped, passes}
use Rattle.vfs.proofs.MountCalls.{mount_begins, large, no_slash_ends, slash_ends}
use Rattle.vfs.proofs.mounting.mount.Goals as goal

pub returns-in_err-check_first : goal.returns-in_err-check_first
returns-in_err-check_first c =
    let p = err_from_is_err_and c.from_residual.result c.from_residual.ensures.1 in
    rw (p.1, p.2) (stopped _ _ _ _ (mount_begins _ _ _) _ c.in_err-check_first.ensures)

pub returns-then-b-gt-VFS_MAX_INO : goal.returns-then-b-gt-VFS_MAX_INO
returns-then-b-gt-VFS_MAX_INO c = rw c.into.ensures (large _ _ _ (passes _ _ _ c.in_ok-check_first.ensures) c.if-b-gt-VFS_MAX_INO.true)

pub unrooted-requires : goal.unrooted-requires
unrooted-requires c = (passes _ _ _ c.in_ok-check_first.ensures).laid

pub returns-then-not-is_rooted : goal.returns-then-not-is_rooted
returns-then-not-is_rooted c = no_slash_ends _ _ _ (passes _ _ _ c.in_ok-check_first.ensures) c.if-b-gt-VFS_MAX_INO.false (sym c.if-not-is_rooted.ensures) (Err c.unrooted.result) _ c.unrooted.ensures

pub mount_rooted-requires : goal.mount_rooted-requires
mount_rooted-requires c =
    let p = passes _ _ _ c.in_ok-check_first.ensures in
    record { s_value = p.laid; path_value = p.fits; path_value_2 = sym c.if-not-is_rooted.ensures }

pub returns : goal.returns
returns c = slash_ends _ _ _ (passes _ _ _ c.in_ok-check_first.ensures) c.if-b-gt-VFS_MAX_INO.false (sym c.if-not-is_rooted.ensures) _ _ c.mount_rooted.ensures
