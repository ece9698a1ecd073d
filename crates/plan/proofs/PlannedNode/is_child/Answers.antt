-- The parent, the length and the bytes of the name are compared.
use mathlib.Core.Logic.{⊎_elim}
use Rattle.plan.proofs.PlannedNodes.{is_else, is_longer, is_named}
use Rattle.plan.proofs.PlannedNode.is_child.Goals as goal

pub returns-then-parent-here : goal.returns-then-parent-here
returns-then-parent-here c =
    ⊎_elim (λ h. is_else _ c.args.self _ _ (rw c.parent.ensures at h)) (λ h. is_longer _ c.args.self _ _ c.requires h.1) c.then-parent-here.either

pub returns : goal.returns
returns c = is_named _ c.args.self _ _ c.requires (rw c.parent.ensures at c.if-parent-here.false) c.if-len-name.false (rw (c.start.ensures, ← c.if-len-name.false) at c.same_at.ensures)
