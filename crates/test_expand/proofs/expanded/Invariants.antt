-- `test_expand::expanded` meets its contract. The invariant: n bytes stand, and with the rest of the line the whole text will. Assumes nothing.
use Rattle.std.proofs.Common.{length, take}
use Rattle.test_expand.specs.Cells.{expanded_by}
use Rattle.test_words.proofs.Filling.{Rest}
use Rattle.test_expand.proofs.expanded.Given as goal

abbrev pub invariant-loop-rest : goal.invariant-loop-rest
invariant-loop-rest l = Rest (length l.initial.out) 0 (take (length l.initial.out) (expanded_by l.cells l.line)) l.initial.out l.out l.n (expanded_by l.cells l.rest)

abbrev pub decreases-loop-rest : goal.decreases-loop-rest
decreases-loop-rest l = length l.rest
