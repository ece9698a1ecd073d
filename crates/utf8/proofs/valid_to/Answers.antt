-- What is passed and what the rest has make the whole.
use native.Mathlib.Nat.{zero-add}
use native.Mathlib.Omega.{arith}
use lib.ListN.{drop}
use Rattle.utf8.proofs.Table.{some_next, none_ends}
use Rattle.utf8.proofs.valid_to.Goals as goal

pub loop-n-init : goal.loop-n-init
loop-n-init c = (omega arith, zero-add _)

pub overflow_add-at : goal.overflow_add-at
overflow_add-at c = omega (arith, some_next _ _ _ c.loop-n.invariant.0 c.in-Some.ensures)

pub loop-n-smaller : goal.loop-n-smaller
loop-n-smaller c = omega (arith, some_next _ _ _ c.loop-n.invariant.0 c.in-Some.ensures)

pub loop-n-preserved : goal.loop-n-preserved
loop-n-preserved c = omega (arith, some_next _ _ _ c.loop-n.invariant.0 c.in-Some.ensures)

pub returns : goal.returns
returns c = omega (arith, none_ends (drop c.loop-n.at c.args.s.now) c.in_default.ensures)
