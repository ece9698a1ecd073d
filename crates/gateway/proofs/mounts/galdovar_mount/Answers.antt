-- The answer by its numbers, from what the call that it wraps answers. Assumes nothing.
use Rattle.rules.specs.Mount.{mount_rule}
use Rattle.mount_parts.specs.Mounting.{mount_mem}
use Rattle.flat.specs.Flat.{mount_numbers}
use Rattle.gateway.specs.Calls.{request_by}
use Rattle.gateway.proofs.Laws.{does_asked}
use Rattle.gateway.proofs.mounts.galdovar_mount.Goals as goal

pub returns : goal.returns
returns c =
    let a = c.args in
    let s = a.storage.now in
    let p = request_by a.path.now a.tag a.root a.largest a.uid a.gid a.mode in
    does_asked mount_numbers s mount_rule (λ q. mount_mem q s) _ p _ _ _ (c.backend.ensures _) c.mounted.ensures c.mount.ensures
