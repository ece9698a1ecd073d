-- The invariant is `Writing`: to write the rest here gives what writing all gives.
use lib.ListN.{length}
use Rattle.plan.proofs.Grows.{Writing}
use Rattle.plan.proofs.apply_plan.Given as goal

abbrev pub invariant-loop-n : goal.invariant-loop-n
invariant-loop-n l = Writing l.initial.s l.path l.planned (length l.planned) l.s l.n-index
