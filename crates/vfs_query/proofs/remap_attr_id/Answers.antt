-- Both ids by the mapping in force: what wraps is the formula in whole numbers.
use mathlib.Core.Path.{refl, sym}
use native.Mathlib.Omega.{arith}
use borrow.Author.Rules.{rules}
use Rattle.std.proofs.lemmas.Result.{err_from_is_err_and}
use Rattle.rules.specs.Lookup.{remap_rule}
use Rattle.tables.proofs.Keeps.{laid_long}
use Rattle.storage.proofs.Laid.{tells_by, told_small_lem}
use Rattle.vfs_query.proofs.Rules.{goes}
use Rattle.vfs_query.proofs.remap_attr_id.Goals as goal

pub returns-in_err-check_laid : goal.returns-in_err-check_laid
returns-in_err-check_laid c =
    let p = err_from_is_err_and c.from_residual.result c.from_residual.ensures.1 in
    let e = c.in_err-check_laid.ensures in
    rw (p.1, p.2, e.0) (sym (told_small_lem _ _ e.1))

pub mapping-mapping-requires : goal.mapping-mapping-requires
mapping-mapping-requires c = laid_long _ c.in_ok-check_laid.ensures

pub returns : goal.returns
unfolding remap_rule
returns c =
    let l = c.in_ok-check_laid.ensures in
    let m = c.mapping-mapping.ensures in
    tells_by _ _ _ _ l (rw (goes c.args.s.now l c.args.uid (omega arith) _ c.remap.result m c.args.outward (search rules), goes c.args.s.now l c.args.gid (omega arith) _ c.remap-2.result m c.args.outward (search rules))) refl
