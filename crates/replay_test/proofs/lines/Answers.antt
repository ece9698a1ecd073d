-- `replay_test::lines` is safe and ends: each turn goes past a line end. Assumes nothing.
use Rattle.std.proofs.Common.{le_of_lt, arith}
use Rattle.path.proofs.Words.{end_in}
use Rattle.replay_test.proofs.lines.Goals as goal

pub slice_bounds-line-count : goal.slice_bounds-line-count
slice_bounds-line-count c = omega (arith, (end_in _ _ _ c.part_end-end.ensures (le_of_lt c.loop-at-test.true)).0)

pub slice_bounds-line-start : goal.slice_bounds-line-start
slice_bounds-line-start c = omega (arith, (end_in _ _ _ c.part_end-end.ensures (le_of_lt c.loop-at-test.true)).0)

pub slice_bounds-line-end : goal.slice_bounds-line-end
slice_bounds-line-end c =
    let p = end_in _ _ _ c.part_end-end.ensures (le_of_lt c.loop-at-test.true) in
    omega (arith, p.0, p.1)

pub overflow_add-at : goal.overflow_add-at
overflow_add-at c = omega (arith, (end_in _ _ _ c.part_end-end.ensures (le_of_lt c.loop-at-test.true)).1)

pub loop-at-smaller : goal.loop-at-smaller
loop-at-smaller c = omega (arith, (end_in _ _ _ c.part_end-end.ensures (le_of_lt c.loop-at-test.true)).0)
