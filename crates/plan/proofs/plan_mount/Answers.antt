-- The invariant is `Going`: what is planned, and the walk from here on, make what the whole walk makes.
use mathlib.Core.Path.{refl, ap, ◌∙◌}
use Rattle.std.specs.Prelude.{Some}
use native.Mathlib.Omega.{arith}
use Rattle.rules.proofs.Parts.{within_limits}
use Rattle.path.proofs.Steps.{step_of}
use Rattle.plan.proofs.Going.{begins, goes_up, goes_to, goes_new, stops, ends, name_short, sliced, slice_named, slice_few}
use Rattle.plan.proofs.plan_mount.Goals as goal

pub loop-c-init : goal.loop-c-init
loop-c-init c = begins _ _ _ c.told-nodes c.requires.path_value

pub loop-c-smaller-in-ParentDir : goal.loop-c-smaller-in-ParentDir
loop-c-smaller-in-ParentDir c =
    let g = step_of _ _ c.in-Some.ensures (ap Some c.in-ParentDir.is) in
    omega (arith, g.further, g.within)

pub loop-c-preserved-in-ParentDir : goal.loop-c-preserved-in-ParentDir
loop-c-preserved-in-ParentDir c =
    goes_up _ _ _ _ _ _ c.loop-c.invariant _ _ _ (step_of _ _ c.in-Some.ensures (ap Some c.in-ParentDir.is)) (rw (sliced _ _ _ _ _ _ c.loop-c.invariant c.requires.bounds) at (c.up-node.ensures c.args.path.now))

pub slice_bounds-name-count : goal.slice_bounds-name-count
slice_bounds-name-count c = let g = step_of _ _ c.in-Some.ensures (ap Some c.in-Normal.is) in omega (arith, g.end)

pub slice_bounds-name-start : goal.slice_bounds-name-start
slice_bounds-name-start c = let g = step_of _ _ c.in-Some.ensures (ap Some c.in-Normal.is) in omega (arith, g.end)

pub slice_bounds-name-end : goal.slice_bounds-name-end
slice_bounds-name-end c = let g = step_of _ _ c.in-Some.ensures (ap Some c.in-Normal.is) in omega (arith, g.within)

pub find-requires : goal.find-requires
find-requires c =
    let g = c.loop-c.invariant in
    let d = c.requires.bounds in
    record { bounds = d; count_bound = slice_few _ _ _ _ _ _ g d; within = slice_named _ _ _ _ _ _ g d }

pub returns-then-count-most : goal.returns-then-count-most
returns-then-count-most c =
    stops _ _ _ _ _ _ c.loop-c.invariant _ _ _ (step_of _ _ c.in-Some.ensures (ap Some c.in-Normal.is)) (rw (sliced _ _ _ _ _ _ c.loop-c.invariant c.requires.bounds) at c.in_default-find.ensures) c.requires.bounds (c.if-count-most.true ∙ c.room-most.ensures)

pub overflow_cast-start : goal.overflow_cast-start
overflow_cast-start c =
    let w = name_short _ _ _ _ _ _ c.loop-c.invariant _ _ _ (step_of _ _ c.in-Some.ensures (ap Some c.in-Normal.is)) (within_limits _ c.requires.path_value).0 in
    omega (arith, w.0)

pub overflow_cast-len : goal.overflow_cast-len
overflow_cast-len c =
    let w = name_short _ _ _ _ _ _ c.loop-c.invariant _ _ _ (step_of _ _ c.in-Some.ensures (ap Some c.in-Normal.is)) (within_limits _ c.requires.path_value).0 in
    omega (arith, w.1)

pub loop-c-smaller-in-Some-find : goal.loop-c-smaller-in-Some-find
loop-c-smaller-in-Some-find c =
    let g = step_of _ _ c.in-Some.ensures (ap Some c.in-Normal.is) in
    omega (arith, g.further, g.within)

pub loop-c-preserved-in-Some-find : goal.loop-c-preserved-in-Some-find
loop-c-preserved-in-Some-find c =
    goes_to _ _ _ _ _ _ c.loop-c.invariant _ _ _ (step_of _ _ c.in-Some.ensures (ap Some c.in-Normal.is)) _ (rw (sliced _ _ _ _ _ _ c.loop-c.invariant c.requires.bounds) at c.in-Some-find.ensures)

pub loop-c-smaller : goal.loop-c-smaller
loop-c-smaller c =
    let g = step_of _ _ c.in-Some.ensures (ap Some c.in-Normal.is) in
    omega (arith, g.further, g.within)

pub loop-c-preserved : goal.loop-c-preserved
loop-c-preserved c =
    goes_new _ _ _ _ _ _ c.loop-c.invariant _ _ _ (step_of _ _ c.in-Some.ensures (ap Some c.in-Normal.is)) _ c.new.ensures.parent c.new.ensures.start c.new.ensures.len
    (rw (sliced _ _ _ _ _ _ c.loop-c.invariant c.requires.bounds) at c.in_default-find.ensures) (omega arith) (omega arith) _ (rw c.next.ensures)

pub returns : goal.returns
returns c = ends _ _ _ _ _ _ c.loop-c.invariant c.requires.bounds (step_of _ _ c.in_default.ensures refl)
