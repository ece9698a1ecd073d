-- After k cells, whether one of them was hit.
use Prim.Native.Nat.{◌-◌}
use Rattle.scan.specs.First.{cell_is}
use Rattle.scan.proofs.First.{Hit}
use Rattle.scan.proofs.cells.any_of_eight.Given as goal

abbrev pub invariant-loop-k : goal.invariant-loop-k
invariant-loop-k l = Hit (cell_is l.s l.at l.mask l.x) l.i l.k l.hit

abbrev pub decreases-loop-k : goal.decreases-loop-k
decreases-loop-k l = 8 - l.k
