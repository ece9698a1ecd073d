-- After the cells before i, none of which is the one sought, the cells that are left decide.
use Rattle.scan.specs.First.{cell_is}
use Rattle.scan.proofs.First.{Left}
use Rattle.scan.proofs.cells.find_by_one.Given as goal

abbrev pub invariant-loop-i : goal.invariant-loop-i
invariant-loop-i l = Left (cell_is l.s l.at l.mask l.x) l.from l.n l.i
