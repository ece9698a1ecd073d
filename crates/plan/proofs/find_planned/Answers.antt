-- What is left is the end of the planned nodes, and decides.
use mathlib.Core.Path.{refl}
use native.Mathlib.Omega.{arith}
use lib.ListN.{length-take, length-drop}
use Rattle.plan.proofs.PlannedNodes.{left_all, left_within, left_here, left_next, left_none}
use Rattle.plan.proofs.find_planned.Goals as goal

pub loop-rest-init : goal.loop-rest-init
loop-rest-init c = left_all _ _ _ _ _

pub is_child-requires : goal.is_child-requires
is_child-requires c = left_within _ _ _ _ _ _ c.loop-rest.invariant c.in-len1-up.len_at_least c.requires.within

pub overflow_sub-result : goal.overflow_sub-result
overflow_sub-result c = c.loop-rest.invariant.few

pub returns-then-is_child : goal.returns-then-is_child
returns-then-is_child c = left_here _ _ _ _ _ _ c.loop-rest.invariant c.in-len1-up.len_at_least c.if-is_child.ensures

pub loop-rest-smaller : goal.loop-rest-smaller
loop-rest-smaller c = simp (length-take, length-drop) (omega (arith, c.in-len1-up.len_at_least))

pub loop-rest-preserved : goal.loop-rest-preserved
loop-rest-preserved c = left_next _ _ _ _ _ _ c.loop-rest.invariant c.in-len1-up.len_at_least _ refl c.if-is_child.ensures

pub returns : goal.returns
returns c = left_none _ _ _ _ _ _ c.loop-rest.invariant (omega arith)
