-- `calls_test::run::Run::run` is safe: a line lies in the script. Assumes nothing.
use Rattle.std.proofs.Common.{le_of_lt, arith}
use Rattle.path.proofs.Words.{end_in}
use Rattle.calls_test.proofs.run.Run.run.Goals as goal

pub overflow_add-self : goal.overflow_add-self
overflow_add-self c = omega (arith, (end_in _ _ _ c.part_end-end.ensures (le_of_lt c.if-input-at.false)).1)

pub slice_bounds-expanded-count : goal.slice_bounds-expanded-count
slice_bounds-expanded-count c = omega (arith, (end_in _ _ _ c.part_end-end.ensures (le_of_lt c.if-input-at.false)).0)

pub slice_bounds-expanded-start : goal.slice_bounds-expanded-start
slice_bounds-expanded-start c = omega (arith, (end_in _ _ _ c.part_end-end.ensures (le_of_lt c.if-input-at.false)).0)

pub slice_bounds-expanded-end : goal.slice_bounds-expanded-end
slice_bounds-expanded-end c =
    let p = end_in _ _ _ c.part_end-end.ensures (le_of_lt c.if-input-at.false) in
    omega (arith, p.0, p.1)

pub slice_bounds-line-end : goal.slice_bounds-line-end
slice_bounds-line-end c = omega (arith, c.expanded-n.ensures.within)
