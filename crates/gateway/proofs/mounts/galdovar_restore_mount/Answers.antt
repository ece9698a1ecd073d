-- The answer by its numbers, from what the call that it wraps answers. Assumes nothing.
use Rattle.rules.specs.Mount.{restore_mount_rule}
use Rattle.mount_parts.specs.RestoredMounting.{restore_mount_mem}
use Rattle.flat.specs.Flat.{restore_mount_numbers}
use Rattle.gateway.specs.Calls.{request_by}
use Rattle.gateway.proofs.Laws.{does_asked}
use Rattle.gateway.proofs.mounts.galdovar_restore_mount.Goals as goal

pub returns : goal.returns
returns c =
    let a = c.args in
    let s = a.storage.now in
    let p = request_by a.path.now a.tag a.root a.largest a.uid a.gid a.mode in
    does_asked restore_mount_numbers s (λ i q. restore_mount_rule i a.fs_idx q) (λ q. restore_mount_mem a.fs_idx q s) _ p _ _ _ (c.backend-b.ensures _) c.restored_mount.ensures c.restore_mount.ensures
