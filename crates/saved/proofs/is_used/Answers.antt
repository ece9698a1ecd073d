-- `saved::is_used` meets its contract. Assumes nothing.
use Rattle.std.proofs.Common.{◌≤◌, ℕ, length, sym, ap, ◌∙◌, arith, rules}
use Rattle.std.proofs.Math.Seq.{take-length}
use Rattle.std.proofs.lemmas.Grind.{common_steps}
use Rattle.std.proofs.lemmas.Iterator.{YieldsList-from_slice}
use Rattle.std.proofs.lemmas.Iterator.Search.{any_from_yields_List}
use Rattle.std.proofs.lemmas.Iterator.Adapters.{serves_from_places}
use Rattle.rules.specs.Saved.{behind}
use Rattle.saved.specs.declared.Kept.{Kept}
use Rattle.saved.proofs.Walk.{within}
use Rattle.saved.proofs.Keeping.{test, used_to}
use Rattle.saved.proofs.is_used.Goals as goal

pub any-requires-clause-callable : goal.any-requires-clause-callable
any-requires-clause-callable c =
    let a = c.args in
    let h = c.requires in
    serves_from_places (YieldsList-from_slice a.before.now cc) (λ x q g. search rules)
    (λ x k l e.
    let whole : behind a.b.now x.now.start ≤ length a.b.now =
    omega (arith, within a.b.now (length a.before.now) k x.now.start (ap (λ (r : Kept). r.start) (e ∙ h.keeps k l x.now)) l) in
    search rules)

pub returns : goal.returns
returns c =
    let a = c.args in
    let bytes = λ (i : ℕ). (c.type_inv.b i).fits in
    any_from_yields_List (test a.b.now a.before.now c.requires.keeps a.at bytes) _ _ _ c.any.ensures.ran (YieldsList-from_slice a.before.now cc) (λ x b q k. grind (arith, common_steps))
    ∙ sym (used_to a.b.now a.before.now c.requires.keeps a.at bytes (length a.before.now) (omega arith) ∙ rw take-length)
