-- The byte in its range, then the tail bytes.
use mathlib.Core.Path.{◌≡◌, sym, ap, ◌∙◌}
use Prim.Native.Nat.{ℕ, ◌+◌, ◌-◌}
use native.Mathlib.Omega.{arith}
use mathlib.Core.Path.{refl}
use mathlib.Core.List.{[], ◌∷◌}
use lib.ListN.{drop}
use Rattle.std.specs.Bool.{then_some}
use Rattle.std.proofs.Common.{rules}
use Rattle.std.proofs.lemmas.Iterator.{YieldsList-from_range}
use Rattle.std.proofs.lemmas.Iterator.Search.{all_from_yields_List}
use Rattle.rules.specs.Utf8.{◌‥◌, fits}
use Rattle.utf8.proofs.Table.{fits_all, tails_short, tails_yes, tails_no}
use Rattle.utf8.proofs.tailed.Goals as goal
use Rattle.utf8.proofs.tailed.Goals.{then-is_in, else-is_in}

pub returns-then-s-at : goal.returns-then-s-at
returns-then-s-at g c =
    let a = c.args in
    let z = tails_short (a.low ‥ a.high) (0x80 ‥ 0xBF) a.s.now a.at (g.row.N - 2) (omega arith) in
    rw z

pub returns : goal.returns
returns g c =
    let a = c.args in
    let s = a.s.now in
    let n : ℕ = g.row.N in
    let z : n - 1 - 1 ≡ n - 2 = omega arith in
    c.then_some.ensures ∙ ap (λ t. then_some t n) (elim c.if-is_in.branch [
      | then-is_in w ↦ w.whole-is ∙ tails_yes (a.low ‥ a.high) (0x80 ‥ 0xBF) s a.at (n - 2) _ (sym c.is_in.ensures ∙ w.if-is_in.true)
          (all_from_yields_List (λ k. fits (0x80 ‥ 0xBF ∷ []) (drop (a.at + k) s)) _ _ _ w.all-whole.ensures.ran (YieldsList-from_range 1 (n - 1) (n - 2) refl z) (λ x b q k. search rules)
          ∙ fits_all (0x80 ‥ 0xBF) s a.at (n - 2) 1)
      | else-is_in w ↦ w.whole-is ∙ w.if-is_in.false ∙ tails_no (a.low ‥ a.high) (0x80 ‥ 0xBF) s a.at (n - 2) (sym c.is_in.ensures ∙ w.if-is_in.false)
    ])
