-- After i rows that are not the child, the rows that are left decide.
use mathlib.Core.Path.{sym, ap, ◌∙◌}
use Rattle.std.specs.Prelude.{Some}
use native.Mathlib.Omega.{arith}
use Rattle.tables.proofs.Alike.{reaches, reaches_none}
use Rattle.tables.proofs.Find.{child_begins, child_here, child_on}
use borrow.Author.Rules.{rules}
use Rattle.tables.proofs.rows.find_child.Goals as goal

pub loop-j-init : goal.loop-j-init
loop-j-init c = child_begins _ _ _

pub child_alike-requires : goal.child_alike-requires
child_alike-requires c =
    let r = reaches _ _ _ (λ j. (c.type_inv.s j).fits) _ _ c.key_of-key.ensures _ c.loop-j.invariant _ c.in-Some.ensures in
    record { bounds = search rules; i_bound = r.below; i_value = r.alike }

pub number-requires-clause-i_bound : goal.number-requires-clause-i_bound
number-requires-clause-i_bound c =
    let r = reaches _ _ _ (λ j. (c.type_inv.s j).fits) _ _ c.key_of-key.ensures _ c.loop-j.invariant _ c.in-Some.ensures in
    r.below

pub returns-then-child_alike : goal.returns-then-child_alike
returns-then-child_alike c =
    let r = reaches _ _ _ (λ j. (c.type_inv.s j).fits) _ _ c.key_of-key.ensures _ c.loop-j.invariant _ c.in-Some.ensures in
    ap Some c.number.ensures ∙ sym (child_here _ _ _ _ r.sought r.below (sym c.child_alike.ensures ∙ c.if-child_alike.true))

pub overflow_add-i : goal.overflow_add-i
overflow_add-i c =
    let r = reaches _ _ _ (λ j. (c.type_inv.s j).fits) _ _ c.key_of-key.ensures _ c.loop-j.invariant _ c.in-Some.ensures in
    omega (arith, r.below, c.requires.live, c.requires.few_nodes)

pub loop-j-smaller : goal.loop-j-smaller
loop-j-smaller c =
    let r = reaches _ _ _ (λ j. (c.type_inv.s j).fits) _ _ c.key_of-key.ensures _ c.loop-j.invariant _ c.in-Some.ensures in
    omega (arith, r.on, r.below)

pub loop-j-preserved : goal.loop-j-preserved
loop-j-preserved c =
    let r = reaches _ _ _ (λ j. (c.type_inv.s j).fits) _ _ c.key_of-key.ensures _ c.loop-j.invariant _ c.in-Some.ensures in
    child_on _ _ _ _ r.sought r.below (sym c.child_alike.ensures ∙ c.if-child_alike.false)

pub returns : goal.returns
returns c = sym (reaches_none _ _ _ (λ j. (c.type_inv.s j).fits) _ _ c.key_of-key.ensures _ c.loop-j.invariant c.in_default.ensures)
