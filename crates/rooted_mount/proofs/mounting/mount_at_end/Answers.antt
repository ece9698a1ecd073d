-- `rooted_mount::mounting::mount_at_end` meets its contract: each way through it by its law.
use mathlib.Core.Path.{sym, ◌∙◌}
use Rattle.std.proofs.lemmas.Result.{err_from_is_err_and}
use Rattle.call_form.proofs.OkOr.{there, missing}
use Rattle.rooted_mount.proofs.PlanWays.{applies, plan_leads, leads_laid, again, full_way, mounts_way}
use Rattle.rooted_mount.proofs.mounting.mount_at_end.Goals as goal

pub returns-in_err-fs_idx : goal.returns-in_err-fs_idx
returns-in_err-fs_idx c =
    let p = err_from_is_err_and c.from_residual.result c.from_residual.ensures.1 in
    let e = missing _ _ _ (sym c.ok_or.ensures.value ∙ c.in_err-fs_idx.was) in
    rw (p.1, p.2, e.1) (full_way _ _ _ _ _ c.allocate-found.ensures c.requires.lacks.room e.0)

pub apply_plan-requires : goal.apply_plan-requires
apply_plan-requires c =
    let g = c.allocate-found.ensures in
    let all = applies _ _ g.keeps _ _ (again _ _ _ _ g _ _ c.requires.lacks) in
    record { bounds = all.0; count_bound = all.1.0; within = all.1.1 }

pub mount_at-requires : goal.mount_at-requires
mount_at-requires c =
    let g = c.allocate-found.ensures in
    record {
      s_value = leads_laid _ _ g.keeps c.requires.path_value _ _ (plan_leads _ _ g.keeps _ _ (again _ _ _ _ g _ _ c.requires.lacks) _ c.apply_plan.ensures);
      le_fs_idx = g.least _ (there _ _ _ (sym c.ok_or.ensures.value ∙ c.in_ok-fs_idx.was));
    }

pub returns : goal.returns
returns c =
    let g = c.allocate-found.ensures in
    let k = c.requires.lacks in
    mounts_way _ _ _ _ _ g k.room c.requires.path_value_2 _ (there _ _ _ (sym c.ok_or.ensures.value ∙ c.in_ok-fs_idx.was)) c.requires.path_value _ _
    (plan_leads _ _ g.keeps _ _ (again _ _ _ _ g _ _ k) _ c.apply_plan.ensures) _ _ c.mount_at.ensures
