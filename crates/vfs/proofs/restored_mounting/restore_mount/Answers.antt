-- `vfs::restored_mounting::restore_mount` meets its contract: each way through it by its law.
use mathlib.Core.Path.{sym}
use Rattle.std.proofs.lemmas.Result.{err_from_is_err_and}
use Rattle.vfs.proofs.FirstRows.{stopped, passes}
use Rattle.vfs.proofs.RestoredMountCalls.{restore_begins, index_by, bad_index, large_back, no_slash_back, slash_back}
use Rattle.vfs.proofs.restored_mounting.restore_mount.Goals as goal

pub returns-in_err-check_first : goal.returns-in_err-check_first
returns-in_err-check_first c =
    let p = err_from_is_err_and c.from_residual.result c.from_residual.ensures.1 in
    rw (p.1, p.2) (stopped _ _ _ _ (restore_begins _ _ _ _) _ c.in_err-check_first.ensures)

pub returns-then-fs_idx-eq-VFS_PSEUDO_FS_IDX : goal.returns-then-fs_idx-eq-VFS_PSEUDO_FS_IDX
returns-then-fs_idx-eq-VFS_PSEUDO_FS_IDX c = bad_index _ _ _ _ (passes _ _ _ c.in_ok-check_first.ensures) c.if-fs_idx-eq-VFS_PSEUDO_FS_IDX.true

pub returns-then-b-gt-VFS_MAX_INO : goal.returns-then-b-gt-VFS_MAX_INO
returns-then-b-gt-VFS_MAX_INO c = large_back _ _ _ _ (passes _ _ _ c.in_ok-check_first.ensures) c.if-fs_idx-eq-VFS_PSEUDO_FS_IDX.false c.if-b-gt-VFS_MAX_INO.true

pub returns-then-not-is_rooted : goal.returns-then-not-is_rooted
returns-then-not-is_rooted c =
    no_slash_back _ _ _ _ (passes _ _ _ c.in_ok-check_first.ensures) c.if-fs_idx-eq-VFS_PSEUDO_FS_IDX.false c.if-b-gt-VFS_MAX_INO.false (sym c.if-not-is_rooted.ensures)

pub restore_mount_rooted-requires : goal.restore_mount_rooted-requires
restore_mount_rooted-requires c =
    let p = passes _ _ _ c.in_ok-check_first.ensures in
    record { s_value = p.laid; path_value = p.fits; path_value_2 = sym c.if-not-is_rooted.ensures; le_fs_idx = index_by _ c.if-fs_idx-eq-VFS_PSEUDO_FS_IDX.false }

pub returns : goal.returns
returns c =
    slash_back _ _ _ _ (passes _ _ _ c.in_ok-check_first.ensures) c.if-fs_idx-eq-VFS_PSEUDO_FS_IDX.false c.if-b-gt-VFS_MAX_INO.false (sym c.if-not-is_rooted.ensures) _ _
    c.restore_mount_rooted.ensures
