-- The part ends where it ends seen from `at`.
use Rattle.std.proofs.Common.{◌≡◌}
use Rattle.path.specs.Steps.{part_end}
use Rattle.path.proofs.components.part_by_one.Given as goal

abbrev pub invariant-loop-i : goal.invariant-loop-i
invariant-loop-i l = part_end l.sep l.s l.i ≡ part_end l.sep l.s l.at
