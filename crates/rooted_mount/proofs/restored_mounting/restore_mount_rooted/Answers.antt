-- The walk finds the whole path; or what it lacks is planned.
use mathlib.Core.Path.{sym}
use Rattle.tables.proofs.Keeps.{laid_is}
use Rattle.rooted_mount.proofs.PlanWays.{walk_lacks}
use Rattle.rooted_mount.proofs.restored_mounting.restore_mount_rooted.Goals as goal

pub walk-requires : goal.walk-requires
walk-requires c = laid_is _ c.requires.s_value

pub restore_mount_at_end-requires-clause-lacks : goal.restore_mount_at_end-requires-clause-lacks
restore_mount_at_end-requires-clause-lacks c = walk_lacks _ _ c.requires.s_value _ (sym c.in-Some.ensures)
