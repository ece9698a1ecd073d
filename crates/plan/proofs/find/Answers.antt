-- A live child comes before a planned one.
use mathlib.Core.Path.{sym, ◌∙◌}
use Rattle.plan.proofs.Nodes.{child_first, child_second}
use Rattle.plan.proofs.find.Goals as goal

pub returns-in-Some : goal.returns-in-Some
returns-in-Some c = sym (child_first _ _ _ _ (sym c.in-Some.ensures))

pub returns : goal.returns
returns c =
    (rw c.next-next.ensures at c.find_planned.ensures)
    ∙ sym (child_second _ _ _ _ (sym c.in_default.ensures))
