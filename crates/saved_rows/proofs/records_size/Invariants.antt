-- What is counted and what is left make the whole. Assumes nothing.
use Rattle.saved_rows.proofs.SaveRecords.{Sized}
use Rattle.saved_rows.proofs.records_size.Given as goal

abbrev pub invariant-loop-i : goal.invariant-loop-i
invariant-loop-i l = Sized l.s l.i-end l.size l.i
