-- The invariant is `Loading`: to load the rest here gives what loading all gives. Assumes nothing.
use lib.ListN.{length}
use Rattle.saved_restore.proofs.Loading.{Loading}
use Rattle.saved_restore.proofs.load_records.Given as goal

abbrev pub invariant-loop-at : goal.invariant-loop-at
invariant-loop-at l = Loading l.initial.s l.b l.s (length l.yielded)
