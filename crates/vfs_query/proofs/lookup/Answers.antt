-- The layout rule, then what the find gives, and the mount on it.
use mathlib.Core.Path.{sym}
use Rattle.std.proofs.lemmas.Result.{err_from_is_err_and}
use Rattle.tables.proofs.Keeps.{laid_is}
use Rattle.storage.proofs.Laid.{told_small_lem}
use Rattle.vfs_query.proofs.Looks.{cross_refused, cross_mounted, cross_bare}
use Rattle.vfs_query.proofs.lookup.Goals as goal

pub returns-in_err-check_laid : goal.returns-in_err-check_laid
returns-in_err-check_laid c =
    let p = err_from_is_err_and c.from_residual.result c.from_residual.ensures.1 in
    let e = c.in_err-check_laid.ensures in
    rw (p.1, p.2, e.0) (sym (told_small_lem _ _ e.1))

pub find-requires : goal.find-requires
find-requires c = laid_is _ c.in_ok-check_laid.ensures

pub returns-in_err-x : goal.returns-in_err-x
returns-in_err-x c =
    let p = err_from_is_err_and c.from_residual-in_err-x.result c.from_residual-in_err-x.ensures.1 in
    rw (p.1, p.2) (cross_refused _ _ _ c.in_ok-check_laid.ensures _ c.find.ensures _ c.in_err-x.was)

pub of_node-requires : goal.of_node-requires
of_node-requires c = laid_is _ c.in_ok-check_laid.ensures

pub pseudo_entry-requires : goal.pseudo_entry-requires
pseudo_entry-requires c = laid_is _ c.in_ok-check_laid.ensures

pub returns-in-Some : goal.returns-in-Some
returns-in-Some c = cross_mounted _ _ _ c.in_ok-check_laid.ensures _ c.find.ensures _ c.in_ok-x.was _ _ c.in-Some.ensures c.root_entry.ensures

pub returns-in-None : goal.returns-in-None
returns-in-None c = cross_bare _ _ _ c.in_ok-check_laid.ensures _ c.find.ensures _ c.in_ok-x.was _ c.in-None.ensures c.pseudo_entry.ensures
