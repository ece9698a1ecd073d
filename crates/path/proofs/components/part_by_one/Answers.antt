-- Each byte ends the part or is passed over.
use Rattle.std.proofs.Common.{sym, ◌∙◌, arith, ◌≡◌, length, max, inl, inr}
use Rattle.std.proofs.lemmas.Bool.{cases_lt}
use Rattle.path.proofs.Words.{end_past, end_here, end_more}
use Rattle.path.proofs.components.part_by_one.Goals as goal

pub returns-then-s-i : goal.returns-then-s-i
returns-then-s-i c = sym (end_here _ _ _ c.loop-i-test.true c.if-s-i.true) ∙ c.loop-i.invariant

pub loop-i-preserved : goal.loop-i-preserved
loop-i-preserved c = sym (end_more _ _ _ c.loop-i-test.true c.if-s-i.false) ∙ c.loop-i.invariant

pub returns : goal.returns
returns c =
    let n = length c.args.s.now in
    elim (cases_lt c.args.at n) [
      | inl h ↦ let m : max c.args.at n ≡ c.loop-i.i = omega arith in c.max.ensures ∙ m ∙ sym (end_past _ _ _ c.loop-i-test.false) ∙ c.loop-i.invariant
      | inr h ↦ let m : max c.args.at n ≡ c.args.at = omega arith in c.max.ensures ∙ m ∙ sym (end_past _ _ _ h)
    ]
