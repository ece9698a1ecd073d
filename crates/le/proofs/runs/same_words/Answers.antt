-- After i words that are equal the last eight bytes decide.
use mathlib.Core.Path.{sym, ap₂, ◌∙◌}
use lib.Dec.{eqb}
use Rattle.le.proofs.Turns.{none_compared, words_compared, last_compared, unequal_here}
use borrow.Author.Rules.{rules}
use Rattle.le.proofs.runs.same_words.Goals as goal

pub loop-i-init : goal.loop-i-init
loop-i-init c = none_compared _ _ _ _ _

pub returns-then-get_u64 : goal.returns-then-get_u64
returns-then-get_u64 c =
    sym (unequal_here _ _ _ _ _ 8 _ c.loop-i.invariant (search rules)
    (λ e. c.if-get_u64.true (c.get_u64.ensures ∙ e ∙ sym c.get_u64-in-loop-i.ensures)))

pub loop-i-preserved : goal.loop-i-preserved
loop-i-preserved c =
    words_compared _ _ _ _ _ _ c.loop-i.invariant (search rules)
    (λ i. (c.type_inv.a i).fits)
    (λ i. (c.type_inv.b i).fits)
    (sym c.get_u64.ensures ∙ c.if-get_u64.false ∙ c.get_u64-in-loop-i.ensures)

pub returns : goal.returns
returns c =
    last_compared _ _ _ _ _ 8 _ _ c.loop-i.invariant (search rules) (search rules)
    (λ i. (c.type_inv.a i).fits)
    (λ i. (c.type_inv.b i).fits)
    (ap₂ eqb (sym c.get_u64-2.ensures) (sym c.get_u64-3.ensures))
