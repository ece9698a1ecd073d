-- Each return is a case of the rule, by index and number.
use mathlib.Core.Path.{refl, sym, ap}
use mathlib.Core.Bool.{not}
use Rattle.std.proofs.lemmas.Result.{err_from_is_err_and}
use Rattle.tables.proofs.Keeps.{laid_is}
use Rattle.storage.proofs.Laid.{tells_by, told_small_lem}
use Rattle.vfs_query.proofs.Rules.{by_index, by_number, by_root, by_no_root}
use Rattle.vfs_query.proofs.route.Goals as goal

pub returns-in_err-check_laid : goal.returns-in_err-check_laid
returns-in_err-check_laid c =
    let p = err_from_is_err_and c.from_residual.result c.from_residual.ensures.1 in
    let e = c.in_err-check_laid.ensures in
    rw (p.1, p.2, e.0) (sym (told_small_lem _ _ e.1))

pub returns-then-not-is_pseudo_fs : goal.returns-then-not-is_pseudo_fs
returns-then-not-is_pseudo_fs c =
    tells_by _ _ _ _ c.in_ok-check_laid.ensures c.route_tag.ensures
    (by_index _ _ _ _ c.ino-ino.ensures c.is_pseudo_fs.ensures (ap not c.if-not-is_pseudo_fs.true) _ c.fs_idx.ensures)

pub returns-then-ino-ne-ROOT_ID : goal.returns-then-ino-ne-ROOT_ID
returns-then-ino-ne-ROOT_ID c =
    tells_by _ _ _ _ c.in_ok-check_laid.ensures refl (by_number _ _ _ _ c.ino-ino.ensures c.is_pseudo_fs.ensures (ap not c.if-not-is_pseudo_fs.false) c.if-ino-ne-ROOT_ID.true)

pub of_root-requires : goal.of_root-requires
of_root-requires c = laid_is _ c.in_ok-check_laid.ensures

pub returns-in-Some : goal.returns-in-Some
returns-in-Some c =
    tells_by _ _ _ _ c.in_ok-check_laid.ensures c.route_tag-in-Some.ensures
    (by_root _ _ _ _ c.ino-ino.ensures c.is_pseudo_fs.ensures (ap not c.if-not-is_pseudo_fs.false) c.if-ino-ne-ROOT_ID.false _ c.in-Some.ensures)

pub returns-in-None : goal.returns-in-None
returns-in-None c =
    tells_by _ _ _ _ c.in_ok-check_laid.ensures refl
    (by_no_root _ _ _ _ c.ino-ino.ensures c.is_pseudo_fs.ensures (ap not c.if-not-is_pseudo_fs.false) c.in-None.ensures)
