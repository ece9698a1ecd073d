-- A live node's parent stands in its row, a planned node's beside its name.
use mathlib.Core.Path.{sym, ◌∙◌}
use native.Mathlib.Omega.{arith}
use Rattle.tables.proofs.RowOf.{row_below}
use Rattle.tables.proofs.ByPlace.{parent_root}
use Rattle.plan.proofs.PlannedNodes.{up_live, up_before, up_planned, up_behind}
use Rattle.plan.proofs.up.Goals as goal
use Rattle.plan.proofs.up.Goals.{else-next-x-via-then-next-x+else-x-next, else-next-x-via-else-next-x}

pub returns-then-x-eq-ROOT_ID : goal.returns-then-x-eq-ROOT_ID
returns-then-x-eq-ROOT_ID c = λ path. sym (parent_root _ _ c.if-x-eq-ROOT_ID.true)

pub parent-requires-clause-i_bound : goal.parent-requires-clause-i_bound
parent-requires-clause-i_bound c = row_below _ _ _ (sym c.in-Some.ensures)

pub returns-in-Some : goal.returns-in-Some
returns-in-Some c = λ path. c.parent.ensures ∙ up_live _ _ _ _ _ c.if-x-eq-ROOT_ID.false _ (sym c.in-Some.ensures)

pub returns-then-x-next : goal.returns-then-x-next
returns-then-x-next c = λ path. c.parent-then-x-next.ensures ∙ up_planned _ _ _ _ _ c.if-x-eq-ROOT_ID.false (sym c.in_default.ensures) _ c.next-next.ensures (omega arith) (omega arith)

pub returns : goal.returns
returns c =
    elim c.else-next-x.branch [
      | else-next-x-via-then-next-x+else-x-next w ↦ (λ path. up_behind _ _ _ _ _ c.if-x-eq-ROOT_ID.false (sym c.in_default.ensures) (omega arith) (omega arith))
      | else-next-x-via-else-next-x w ↦ (λ path. up_before _ _ _ _ _ c.if-x-eq-ROOT_ID.false (sym c.in_default.ensures) (omega arith))
    ]
