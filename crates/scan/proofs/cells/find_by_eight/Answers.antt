-- After the cells before i, eight at a time, none of which is the one sought, the cells that are left decide.
use mathlib.Core.Path.{sym, ◌∙◌}
use Rattle.scan.proofs.First.{all_left, eight_left}
use borrow.Author.Rules.{rules}
use Rattle.scan.proofs.cells.find_by_eight.Goals as goal

pub loop-i-init : goal.loop-i-init
loop-i-init c = all_left _ _ _ (search rules)

pub loop-i-preserved : goal.loop-i-preserved
loop-i-preserved c =
    eight_left _ _ _ _ c.loop-i.invariant (search rules) (sym c.any_of_eight.ensures ∙ c.if-any_of_eight.false)

pub returns : goal.returns
returns c = c.find_by_one.ensures ∙ sym c.loop-i.invariant.1
