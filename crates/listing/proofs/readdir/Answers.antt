-- The tests in their order, each with the answer of the rule.
use mathlib.Core.Path.{sym}
use borrow.Author.Rules.{rules}
use Rattle.std.proofs.lemmas.Result.{err_from_is_err_and}
use Rattle.tables.proofs.Keeps.{laid_is}
use Rattle.listing.proofs.Answers.{lists_small, lists_nothing, lists_unknown, lists_laid}
use Rattle.listing.proofs.readdir.Goals as goal

pub returns-in_err-check_laid : goal.returns-in_err-check_laid
returns-in_err-check_laid c =
    let p = err_from_is_err_and c.from_residual.result c.from_residual.ensures.1 in
    let e = c.in_err-check_laid.ensures in
    rw (p.1, p.2, e.0) (lists_small _ _ _ _ _ e.1)

pub returns-then-size-eq0 : goal.returns-then-size-eq0
returns-then-size-eq0 c = lists_nothing _ _ _ _ _ c.in_ok-check_laid.ensures c.if-size-eq0.true

pub is_known-requires : goal.is_known-requires
is_known-requires c = laid_is _ c.in_ok-check_laid.ensures

pub returns-then-not-is_known : goal.returns-then-not-is_known
returns-then-not-is_known c = lists_unknown _ _ _ _ _ c.in_ok-check_laid.ensures c.if-size-eq0.false (sym c.if-not-is_known.ensures)

pub lay_children-requires-clause-bounds : goal.lay_children-requires-clause-bounds
lay_children-requires-clause-bounds c = laid_is _ c.in_ok-check_laid.ensures

pub returns : goal.returns
returns c = lists_laid _ _ _ _ _ c.in_ok-check_laid.ensures c.if-size-eq0.false (sym c.if-not-is_known.ensures) _ _ _ (search rules) c.lay_children.ensures
