-- The eight cells at `from` hold the first, or the cells behind them decide; where the mask is of all bits, by that number.
use mathlib.Core.Path.{◌∙◌}
use borrow.Author.Rules.{rules}
use Rattle.scan.proofs.First.{by_mask, part_found, part_none}
use Rattle.scan.proofs.cells.find_cell.Goals as goal

pub returns-in-Some : goal.returns-in-Some
returns-in-Some c = part_found _ _ _ _ (search rules) (search rules) _ c.in-Some.ensures

pub returns-then-mask-eq-ALL : goal.returns-then-mask-eq-ALL
returns-then-mask-eq-ALL c =
    c.find_by_eight.ensures ∙ by_mask _ _ _ _ _ _ _ c.if-mask-eq-ALL.true ∙ part_none _ _ _ _ (search rules) (search rules) c.in_default.ensures

pub returns : goal.returns
returns c = c.find_by_eight-2.ensures ∙ part_none _ _ _ _ (search rules) (search rules) c.in_default.ensures
