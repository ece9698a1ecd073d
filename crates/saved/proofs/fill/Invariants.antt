-- `saved::fill` meets its contract. The invariant: the first are put down. Assumes nothing.
use Rattle.std.proofs.Common.{◌≡◌}
use Rattle.saved.specs.Scan.{start_of}
use Rattle.saved.specs.Kept.{KeepsBelow}
use Rattle.saved.proofs.fill.Given as goal

abbrev pub invariant-loop-r : goal.invariant-loop-r
invariant-loop-r l = (l.at ≡ start_of l.b l.r-index) × KeepsBelow l.b l.r-index l.kept
