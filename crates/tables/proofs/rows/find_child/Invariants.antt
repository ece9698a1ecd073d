-- After i rows that are not the child, the rows that are left decide.
use Prim.Native.Nat.{◌-◌}
use Rattle.tables.specs.Layout.{count_of}
use Rattle.tables.proofs.Find.{Sought}
use Rattle.tables.proofs.rows.find_child.Given as goal

abbrev pub invariant-loop-j : goal.invariant-loop-j
invariant-loop-j l = Sought l.s l.here l.name l.i

abbrev pub decreases-loop-j : goal.decreases-loop-j
decreases-loop-j l = count_of l.s - l.i
