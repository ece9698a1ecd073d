-- `path_test::components` ends: each step goes further. Assumes nothing.
use Rattle.std.proofs.Common.{◌-◌, length}
use Rattle.path_test.proofs.components.Given as goal

abbrev pub decreases-loop-c : goal.decreases-loop-c
decreases-loop-c l = length l.s - l.at
