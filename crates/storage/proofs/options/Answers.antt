-- SMALL where the rule is broken; else the options are the header's. Assumes nothing.
use Rattle.std.proofs.lemmas.Result.{err_from_is_err_and}
use Rattle.tables.proofs.Keeps.{laid_long}
use Rattle.storage.proofs.Answers.{options_small, options_are}
use Rattle.storage.proofs.options.Goals as goal

pub returns-in_err-check_laid : goal.returns-in_err-check_laid
returns-in_err-check_laid c =
    let p = err_from_is_err_and c.from_residual.result c.from_residual.ensures.1 in
    let e = c.in_err-check_laid.ensures in
    rw (p.1, p.2, e.0) (options_small _ e.1)

pub options_in-requires : goal.options_in-requires
options_in-requires c = laid_long _ c.in_ok-check_laid.ensures

pub returns : goal.returns
returns c = options_are _ c.in_ok-check_laid.ensures _ c.options_in.ensures
