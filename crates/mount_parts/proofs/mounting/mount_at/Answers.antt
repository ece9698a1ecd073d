-- `mount_parts::mounting::mount_at` meets its contract: each way through it by its law.
use Rattle.rules.specs.Outcome.{mounted}
use Rattle.mount_parts.proofs.MountWays.{ends}
use Rattle.mount_parts.proofs.mounting.mount_at.Goals as goal

pub returns-in-Ok : goal.returns-in-Ok
returns-in-Ok c = ends _ _ _ _ _ _ c.in-Ok.ensures (λ u v. mounted c.args.fs_idx u) _

pub returns-in-Err : goal.returns-in-Err
returns-in-Err c = ends _ _ _ _ _ _ c.in-Err.ensures (λ u v. mounted c.args.fs_idx u) _
