-- One place, and the others are left. Assumes nothing.
use Rattle.std.proofs.Common.{ap, length, List, ℕ, arith}
use Rattle.std.proofs.lemmas.Grind.{common_steps}
use Rattle.saved_parts.proofs.Starts.{no_place, one_place, one_whole, others_whole}
use Rattle.saved_parts.proofs.records.RecordsIterator.next.Goals as goal

pub returns-in_err-self-clause-steps : goal.returns-in_err-self-clause-steps
returns-in_err-self-clause-steps c =
    let s = c.args.self.now in
    let none = c.in_err-self.ensures in
    let e = no_place s.b.now s.left s.at (omega (arith, none)) in
    grind (arith, common_steps)

pub record_end-self-requires : goal.record_end-self-requires
record_end-self-requires c =
    let s = c.args.self.now in
    let one = c.in_ok-self.ensures in
    one_whole s.b.now s.left s.at c.in_ok-self.field-0 (omega (arith, one.0, one.1)) s.whole

pub invariant_of-self : goal.invariant_of-self
invariant_of-self c =
    let s = c.args.self.now in
    let one = c.in_ok-self.ensures in
    record { whole = others_whole s.b.now s.left s.at c.in_ok-self.field-0 (omega (arith, one.0, one.1)) s.whole _ c.record_end-self.ensures }

pub returns-clause-steps : goal.returns-clause-steps
returns-clause-steps c =
    let one = c.in_ok-self.ensures in
    one_place _ _ _ c.in_ok-self.field-0 (omega (arith, one.0, one.1)) _ c.record_end-self.ensures

pub returns-clause-goes : goal.returns-clause-goes
returns-clause-goes c =
    let s = c.args.self.now in
    let one = c.in_ok-self.ensures in
    let e = one_place s.b.now s.left s.at c.in_ok-self.field-0 (omega (arith, one.0, one.1)) _ c.record_end-self.ensures in
    let l = ap (λ (xs : List ℕ). length xs) e in
    grind (arith, common_steps)
