-- After i bytes that are equal the rest of the two runs decides.
use mathlib.Core.Path.{sym, ◌∙◌}
use Rattle.le.proofs.Lens.{get_one}
use Rattle.le.proofs.Turns.{none_compared, all_compared, equal_here, unequal_here}
use borrow.Author.Rules.{rules}
use Rattle.le.proofs.runs.same_bytes.Goals as goal

pub loop-i-init : goal.loop-i-init
loop-i-init c = none_compared _ _ _ _ _

pub returns-then-a-p : goal.returns-then-a-p
returns-then-a-p c = sym (unequal_here _ _ _ _ _ 1 _ c.loop-i.invariant (search rules) (λ e. c.if-a-p.true (get_one _ _ ∙ e ∙ sym (get_one _ _))))

pub loop-i-preserved : goal.loop-i-preserved
loop-i-preserved c =
    equal_here _ _ _ _ _ 1 _ c.loop-i.invariant (search rules)
    (λ i. (c.type_inv.a i).fits)
    (λ i. (c.type_inv.b i).fits)
    (sym (get_one _ _) ∙ c.if-a-p.false ∙ get_one _ _)

pub returns : goal.returns
returns c = sym (all_compared _ _ _ _ _ _ c.loop-i.invariant (search rules))
