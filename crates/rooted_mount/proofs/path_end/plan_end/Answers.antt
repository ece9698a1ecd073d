-- The plan has what the path lacks.
use Rattle.std.proofs.lemmas.Result.{err_from_is_err_and}
use Rattle.tables.proofs.Keeps.{laid_is}
use Rattle.plan.proofs.Walked.{refused}
use Rattle.rooted_mount.proofs.PlanWays.{few, plan_lacks}
use Rattle.rooted_mount.proofs.path_end.plan_end.Goals as goal

pub plan_mount-requires-clause-bounds : goal.plan_mount-requires-clause-bounds
plan_mount-requires-clause-bounds c = laid_is _ c.requires.s_value

pub returns-in_err-planned : goal.returns-in_err-planned
returns-in_err-planned c =
    let p = err_from_is_err_and c.from_residual.result c.from_residual.ensures.1 in
    rw (p.1, p.2) (refused _ _ _ c.plan_mount.ensures c.in_err-planned.was)

pub shared_ref_as_front-result : goal.shared_ref_as_front-result
shared_ref_as_front-result c = few _ _ c.requires.s_value _ _ c.in_ok-planned.ensures

pub returns : goal.returns
returns c = plan_lacks _ _ c.requires.s_value _ _ c.in_ok-planned.ensures
