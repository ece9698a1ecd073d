-- `rooted_mount::restored_mounting::restore_mount_at_end` meets its contract: each way through it by its law.
use Rattle.rooted_mount.proofs.PlanWays.{applies, plan_leads, leads_laid, restores_way}
use Rattle.rooted_mount.proofs.restored_mounting.restore_mount_at_end.Goals as goal

pub apply_plan-requires : goal.apply_plan-requires
apply_plan-requires c =
    let all = applies _ _ c.requires.s_value _ _ c.requires.lacks in
    record { bounds = all.0; count_bound = all.1.0; within = all.1.1 }

pub restore_mount_at-requires : goal.restore_mount_at-requires
restore_mount_at-requires c = record {
  s_value = leads_laid _ _ c.requires.s_value c.requires.path_value _ _ (plan_leads _ _ c.requires.s_value _ _ c.requires.lacks _ c.apply_plan.ensures);
  le_fs_idx = c.requires.le_fs_idx;
}

pub returns : goal.returns
returns c =
    restores_way _ _ _ _ c.requires.s_value c.requires.path_value _ _
    (plan_leads _ _ c.requires.s_value _ _ c.requires.lacks _ c.apply_plan.ensures) _ _ c.restore_mount_at.ensures
