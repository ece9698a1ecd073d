-- SMALL where the rule is broken; else the byte is the header's cell 16. Assumes nothing.
use Rattle.std.proofs.lemmas.Result.{err_from_is_err_and}
use Rattle.tables.proofs.Keeps.{laid_long}
use Rattle.storage.proofs.Answers.{initialized_small, initialized_is}
use native.Mathlib.Omega.{arith}
use Rattle.storage.proofs.initialized.Goals as goal

pub returns-in_err-check_laid : goal.returns-in_err-check_laid
returns-in_err-check_laid c =
    let p = err_from_is_err_and c.from_residual.result c.from_residual.ensures.1 in
    let e = c.in_err-check_laid.ensures in
    rw (p.1, p.2, e.0) (initialized_small _ e.1)

pub get_u8-requires : goal.get_u8-requires
get_u8-requires c = omega (arith, laid_long _ c.in_ok-check_laid.ensures)

pub returns : goal.returns
returns c = initialized_is _ c.in_ok-check_laid.ensures _ c.get_u8.ensures
