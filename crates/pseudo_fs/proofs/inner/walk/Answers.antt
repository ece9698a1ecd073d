-- The walk from here on is the walk of the whole path, at each component; at a name the rows that are left decide.
use mathlib.Core.Path.{sym, ap, ◌∙◌}
use Rattle.std.specs.Prelude.{Some}
use native.Mathlib.Omega.{arith}
use borrow.Author.Rules.{rules}
use Rattle.path.proofs.Steps.{step_of}
use Rattle.tables.proofs.Alike.{reaches, reaches_none}
use Rattle.tables.proofs.Find.{child_begins, child_here, child_on}
use Rattle.pseudo_fs.proofs.Walks.{begins, arrives, goes_up, goes_to, stops, bounds, nearer}
use Rattle.pseudo_fs.proofs.inner.walk.Goals as goal

pub outer-init : goal.outer-init
outer-init c = begins _ _

pub outer-smaller : goal.outer-smaller
outer-smaller c = nearer _ _ _ _ _ _ (step_of _ _ c.in-Some.ensures (ap Some c.in-ParentDir.is))

pub outer-preserved : goal.outer-preserved
outer-preserved c = goes_up _ _ _ _ c.outer.invariant _ _ _ _ (step_of _ _ c.in-Some.ensures (ap Some c.in-ParentDir.is)) c.parent_of-node.ensures

pub slice_bounds-key_of-count : goal.slice_bounds-key_of-count
slice_bounds-key_of-count c = (bounds _ _ _ _ _ _ (step_of _ _ c.in-Some.ensures (ap Some c.in-Normal.is))).0

pub slice_bounds-key_of-start : goal.slice_bounds-key_of-start
slice_bounds-key_of-start c = let b = bounds c.args.path.now _ _ _ _ _ (step_of _ _ c.in-Some.ensures (ap Some c.in-Normal.is)) in omega (arith, b.0, b.1)

pub slice_bounds-key_of-end : goal.slice_bounds-key_of-end
slice_bounds-key_of-end c = let b = bounds c.args.path.now _ _ _ _ _ (step_of _ _ c.in-Some.ensures (ap Some c.in-Normal.is)) in omega (arith, b.0, b.1)

pub loop-j-init : goal.loop-j-init
loop-j-init c = (c.outer.invariant, child_begins _ _ _)

pub slice_bounds-child_alike-count : goal.slice_bounds-child_alike-count
slice_bounds-child_alike-count c = (bounds _ _ _ _ _ _ (step_of _ _ c.in-Some.ensures (ap Some c.in-Normal.is))).0

pub slice_bounds-child_alike-start : goal.slice_bounds-child_alike-start
slice_bounds-child_alike-start c = let b = bounds c.args.path.now _ _ _ _ _ (step_of _ _ c.in-Some.ensures (ap Some c.in-Normal.is)) in omega (arith, b.0, b.1)

pub slice_bounds-child_alike-end : goal.slice_bounds-child_alike-end
slice_bounds-child_alike-end c = let b = bounds c.args.path.now _ _ _ _ _ (step_of _ _ c.in-Some.ensures (ap Some c.in-Normal.is)) in omega (arith, b.0, b.1)

pub child_alike-requires : goal.child_alike-requires
child_alike-requires c =
    let r = reaches _ _ _ (λ j. (c.type_inv.s j).fits) _ _ c.key_of-key.ensures _ c.loop-j.invariant.1 _ c.in-Some-next_alike.ensures in
    record { bounds = search rules; i_bound = r.below; i_value = r.alike }

pub number-node-requires-clause-i_bound : goal.number-node-requires-clause-i_bound
number-node-requires-clause-i_bound c =
    let r = reaches _ _ _ (λ j. (c.type_inv.s j).fits) _ _ c.key_of-key.ensures _ c.loop-j.invariant.1 _ c.in-Some-next_alike.ensures in
    r.below

pub outer-smaller-then-child_alike : goal.outer-smaller-then-child_alike
outer-smaller-then-child_alike c = nearer _ _ _ _ _ _ (step_of _ _ c.in-Some.ensures (ap Some c.in-Normal.is))

pub outer-preserved-then-child_alike : goal.outer-preserved-then-child_alike
outer-preserved-then-child_alike c =
    let r = reaches _ _ _ (λ j. (c.type_inv.s j).fits) _ _ c.key_of-key.ensures _ c.loop-j.invariant.1 _ c.in-Some-next_alike.ensures in
    goes_to _ _ _ _ c.loop-j.invariant.0 _ _ _ (step_of _ _ c.in-Some.ensures (ap Some c.in-Normal.is)) _
    (child_here _ _ _ _ r.sought r.below (sym c.child_alike.ensures ∙ c.if-child_alike.true) ∙ ap Some (sym c.number-node.ensures))

pub overflow_add-i : goal.overflow_add-i
overflow_add-i c =
    let r = reaches _ _ _ (λ j. (c.type_inv.s j).fits) _ _ c.key_of-key.ensures _ c.loop-j.invariant.1 _ c.in-Some-next_alike.ensures in
    omega (arith, r.below, c.requires.live, c.requires.few_nodes)

pub loop-j-smaller : goal.loop-j-smaller
loop-j-smaller c =
    let r = reaches _ _ _ (λ j. (c.type_inv.s j).fits) _ _ c.key_of-key.ensures _ c.loop-j.invariant.1 _ c.in-Some-next_alike.ensures in
    omega (arith, r.on, r.below)

pub loop-j-preserved : goal.loop-j-preserved
loop-j-preserved c =
    let r = reaches _ _ _ (λ j. (c.type_inv.s j).fits) _ _ c.key_of-key.ensures _ c.loop-j.invariant.1 _ c.in-Some-next_alike.ensures in
    (c.loop-j.invariant.0, child_on _ _ _ _ r.sought r.below (sym c.child_alike.ensures ∙ c.if-child_alike.false))

pub returns-in-Normal : goal.returns-in-Normal
returns-in-Normal c =
    stops _ _ _ _ c.loop-j.invariant.0 _ _ _ (step_of _ _ c.in-Some.ensures (ap Some c.in-Normal.is))
    (reaches_none _ _ _ (λ j. (c.type_inv.s j).fits) _ _ c.key_of-key.ensures _ c.loop-j.invariant.1 c.in_default-next_alike.ensures)

pub returns : goal.returns
returns c = arrives _ _ _ _ c.outer.invariant (step_of _ _ c.next_component.ensures c.in_default.is)
