-- `saved::is_listed` meets its contract. Assumes nothing.
use Rattle.std.proofs.Common.{Bool, ◌==◌, reverse, sym, ◌∙◌, arith, rules, ne_eqb}
use borrow.Author.Tests.{tests}
use Rattle.std.proofs.lemmas.Grind.{common_steps}
use Rattle.std.proofs.lemmas.Iterator.Search.{any_from_yields_List}
use Rattle.std.proofs.lemmas.Iterator.Adapters.{YieldsList-from_rev_slice}
use Rattle.std.proofs.lemmas.List.Sorted.{list_any-IsPermutation, IsPermutation-reverse}
use Rattle.saved.specs.declared.Kept.{Kept}
use Rattle.saved.specs.Kept.{listed}
use Rattle.saved.proofs.is_listed.Goals as goal

pub returns-then-number-eq-ROOT_ID : goal.returns-then-number-eq-ROOT_ID
unfolding listed
returns-then-number-eq-ROOT_ID c = grind (arith, common_steps)

pub returns-else-number-eq-ROOT_ID : goal.returns-else-number-eq-ROOT_ID
unfolding listed
returns-else-number-eq-ROOT_ID c =
    let x = c.args.number in
    let b = c.args.before.now in
    let p : Kept → Bool = λ r. r.number == x in
    rw (ne_eqb x 1 c.if-number-eq-ROOT_ID.false)
    (any_from_yields_List p _ _ _ c.any.ensures.ran (YieldsList-from_rev_slice b cc) (λ y t q k. search (rules, tests))
    ∙ sym (list_any-IsPermutation p b (reverse b) (IsPermutation-reverse b)))
