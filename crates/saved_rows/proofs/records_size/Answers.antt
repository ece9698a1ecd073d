-- What is counted and what is left make the whole. Assumes nothing.
use native.Mathlib.Omega.{arith}
use Rattle.row_name.proofs.Names.{name_short}
use Rattle.saved_rows.proofs.SaveRecords.{sized_start, sized_on, sized_done, sized_small}
use Rattle.saved_rows.proofs.records_size.Goals as goal

pub loop-i-init : goal.loop-i-init
loop-i-init c = sized_start _ _ c.requires c.count-i-end.ensures

pub overflow_add-size : goal.overflow_add-size
overflow_add-size c = let k = name_short _ _ _ _ c.name_len.ensures in omega arith

pub overflow_add-size-in-loop-i : goal.overflow_add-size-in-loop-i
overflow_add-size-in-loop-i c = let h = sized_small _ _ _ _ c.loop-i.invariant in let k = name_short _ _ _ _ c.name_len.ensures in omega arith

pub loop-i-preserved : goal.loop-i-preserved
loop-i-preserved c = sized_on _ _ _ _ c.loop-i.invariant (omega arith) _ c.name_len.ensures

pub returns : goal.returns
returns c = sized_done _ _ _ _ c.loop-i.invariant (omega arith)
