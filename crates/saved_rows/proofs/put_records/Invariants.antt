-- Putting what is left behind what is written gives what putting all gives. Assumes nothing.
use Rattle.saved_rows.proofs.SaveRecords.{Putting}
use Rattle.saved_rows.proofs.put_records.Given as goal

abbrev pub invariant-loop-i : goal.invariant-loop-i
invariant-loop-i l = Putting l.s l.i-end l.initial.out l.out l.at l.i
