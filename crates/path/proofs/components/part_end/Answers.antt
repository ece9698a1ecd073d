-- Eight bytes at a time, none of them `sep`; then the first `sep` of those that are left, if it is among them.
use Rattle.std.proofs.Common.{◌≡◌, ◌+◌, ◌-◌, eqb, false, take, drop, ℕ, sym, ap, ◌∙◌, arith}
use Rattle.std.specs.List.{list_any}
use Rattle.path.proofs.Words.{any_folded, end_past, end_skip}
use Rattle.path.proofs.components.part_end.Goals as goal

pub returns-then-s-at : goal.returns-then-s-at
returns-then-s-at c = sym (end_past _ _ _ c.if-s-at.true)

pub loop-i-preserved : goal.loop-i-preserved
loop-i-preserved c =
    let i = c.loop-i.i in
    let n : i + 8 - i ≡ 8 = omega arith in
    let none : list_any (λ y. eqb y c.args.sep) (take 8 (drop i c.args.s.now)) ≡ false =
    ap (λ (k : ℕ). list_any (λ y. eqb y c.args.sep) (take k (drop i c.args.s.now))) (sym n) ∙ sym (c.any_byte.ensures ∙ any_folded c.args.sep false _) ∙ c.if-not-any_byte.true in
    (omega arith, sym (end_skip c.args.sep c.args.s.now i 8 (omega arith) none) ∙ c.loop-i.invariant.1)

pub returns : goal.returns
returns c = c.part_by_one.ensures ∙ c.loop-i.invariant.1
