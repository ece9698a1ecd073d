-- The loop has copied i bytes of the run.
use Rattle.row_name.proofs.Runs.{Begun}
use Rattle.row_name.proofs.copy_few.Given as goal

abbrev pub invariant-loop-i : goal.invariant-loop-i
invariant-loop-i l = Begun l.initial.dst l.at l.src l.from l.len l.dst l.i
