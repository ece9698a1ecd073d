-- After the first four bytes, where equal, the last four decide.
use mathlib.Core.Path.{sym, ap₂, ◌∙◌}
use lib.Dec.{eqb}
use Rattle.le.proofs.Turns.{last_compared, first_equal, first_unequal}
use borrow.Author.Rules.{rules}
use Rattle.le.proofs.runs.same_short.Goals as goal

pub returns-then-len-lt4 : goal.returns-then-len-lt4
returns-then-len-lt4 c = c.same_bytes.ensures

pub returns-then-get_u32 : goal.returns-then-get_u32
returns-then-get_u32 c =
    sym (first_unequal _ _ _ _ _ 4 (search rules)
    (λ e. c.if-get_u32.true (c.get_u32.ensures ∙ e ∙ sym c.get_u32-2.ensures)))

pub returns : goal.returns
returns c =
    last_compared _ _ _ _ _ 4 _ _
    (first_equal _ _ _ _ _ 4 (search rules)
    (λ i. (c.type_inv.a i).fits)
    (λ i. (c.type_inv.b i).fits)
    (sym c.get_u32.ensures ∙ c.if-get_u32.false ∙ c.get_u32-2.ensures))
    (search rules) (search rules)
    (λ i. (c.type_inv.a i).fits)
    (λ i. (c.type_inv.b i).fits)
    (ap₂ eqb (sym c.get_u32-3.ensures) (sym c.get_u32-4.ensures))
