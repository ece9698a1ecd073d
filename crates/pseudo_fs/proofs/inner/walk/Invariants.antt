-- The outer loop: the walk from here on is the walk of the whole path. The inner loop: that again, at the node that is searched, and the rows that are left decide.
use Prim.Native.Nat.{◌-◌}
use lib.ListN.{length}
use Rattle.path.specs.Steps.{between}
use Rattle.tables.specs.Layout.{count_of}
use Rattle.tables.proofs.Find.{Sought}
use Rattle.pseudo_fs.proofs.Walks.{Going}
use Rattle.pseudo_fs.proofs.inner.walk.Given as goal

abbrev pub invariant-loop-j : goal.invariant-loop-j
invariant-loop-j l = Going l.s l.path l.node l.initial.at × Sought l.s l.node (between l.path l.start l.next) l.i

abbrev pub decreases-loop-j : goal.decreases-loop-j
decreases-loop-j l = count_of l.s - l.i

abbrev pub invariant-outer : goal.invariant-outer
invariant-outer l = Going l.s l.path l.node l.at

abbrev pub decreases-outer : goal.decreases-outer
decreases-outer l = length l.path - l.at
