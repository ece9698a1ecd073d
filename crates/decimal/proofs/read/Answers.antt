-- Each byte is the next digit, or reading ends there.
use Rattle.std.proofs.Common.{suc, drop, get_or, sym, ap, ◌∙◌, arith}
use Rattle.std.proofs.lemmas.Bool.Decides.{nat_tests}
use lib.ListN.{drop_of_length-le}
use lib.Seq.{drop-cons}
use native.Mathlib.Numerals.{add-one}
use Rattle.decimal.proofs.Steps.{read_from, from_none, from_start, from_nil, next_value, next_bad}
use Rattle.decimal.proofs.read.Goals as goal

pub returns-then-is_empty : goal.returns-then-is_empty
returns-then-is_empty c = sym (from_none _ _ (grind (arith, nat_tests)))

pub loop-b-init : goal.loop-b-init
loop-b-init c = (omega arith, from_start _ _ (grind (arith, nat_tests)))

pub returns-in_err-n : goal.returns-in_err-n
returns-in_err-n c =
    let bad = next_bad c.args.max c.loop-b.n (get_or c.args.s.now c.loop-b.b-index 0) (drop (suc c.loop-b.b-index) c.args.s.now) (sym c.one_more.ensures ∙ c.in_err-n.was) in
    c.from_residual.ensures ∙ sym (c.loop-b.invariant.1 ∙ ap (read_from _ _) (drop-cons _ _ 0 c.loop-b-test.true) ∙ bad)

pub loop-b-preserved : goal.loop-b-preserved
loop-b-preserved c =
    let next = next_value c.args.max c.loop-b.n (get_or c.args.s.now c.loop-b.b-index 0) c.in_ok-n.n (drop (suc c.loop-b.b-index) c.args.s.now) (sym c.one_more.ensures ∙ c.in_ok-n.was) in
    (next.0, rw add-one (c.loop-b.invariant.1 ∙ ap (read_from _ _) (drop-cons _ _ 0 c.loop-b-test.true) ∙ next.1))

pub returns : goal.returns
returns c =
    sym (c.loop-b.invariant.1 ∙ ap (read_from _ _) (drop_of_length-le _ c.loop-b-test.false) ∙ from_nil _ _ c.loop-b.invariant.0)
