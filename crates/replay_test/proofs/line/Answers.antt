-- `replay_test::line` is safe: the place of `x` lies in the line. Assumes nothing.
use Rattle.std.proofs.Common.{zero-le, arith}
use Rattle.path.proofs.Words.{end_in}
use Rattle.replay_test.proofs.line.Goals as goal

pub overflow_add-x : goal.overflow_add-x
overflow_add-x c = omega (arith, (end_in _ _ _ c.part_end-x.ensures zero-le).1)
