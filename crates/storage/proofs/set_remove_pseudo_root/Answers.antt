-- SMALL where the rule is broken; else the flag is set. Assumes nothing.
use Rattle.std.proofs.lemmas.Result.{err_from_is_err_and}
use Rattle.tables.proofs.Keeps.{laid_long}
use Rattle.storage.proofs.Answers.{removal_small, removal_done}
use Rattle.storage.proofs.set_remove_pseudo_root.Goals as goal

pub returns-in_err-check_laid : goal.returns-in_err-check_laid
returns-in_err-check_laid c =
    let p = err_from_is_err_and c.from_residual.result c.from_residual.ensures.1 in
    let e = c.in_err-check_laid.ensures in
    rw (p.1, p.2, e.0) (removal_small _ e.1)

pub set_removes-requires : goal.set_removes-requires
set_removes-requires c = laid_long _ c.in_ok-check_laid.ensures

pub returns : goal.returns
returns c = removal_done _ _ c.in_ok-check_laid.ensures c.set_removes.ensures
