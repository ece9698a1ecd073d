-- The invariant is `Writing`: to write the rest here gives what writing all gives.
use Rattle.plan.proofs.Grows.{done, goes_on}
use native.Mathlib.Omega.{arith}
use Rattle.plan.proofs.apply_plan.Goals as goal

pub append-requires-clause-name_len_bound : goal.append-requires-clause-name_len_bound
append-requires-clause-name_len_bound c = c.name.ensures.short

pub loop-n-preserved : goal.loop-n-preserved
loop-n-preserved c =
    goes_on _ _ _ _ _ _ c.loop-n.invariant _ (omega arith) c.requires.count_bound.0 c.requires.count_bound.1 (rw (c.parent.ensures, c.name.ensures.part) at c.append.ensures)

pub returns : goal.returns
returns c = done _ _ _ _ _ _ c.loop-n.invariant (omega arith)
