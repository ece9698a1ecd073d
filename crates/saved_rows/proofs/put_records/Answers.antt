-- Putting what is left behind what is written gives what putting all gives. Assumes nothing.
use native.Mathlib.Omega.{arith}
use Rattle.saved_rows.proofs.SaveRecords.{putting_start, putting_within, putting_done, putting_room, putting_on}
use borrow.Author.Rules.{rules}
use Rattle.saved_rows.proofs.put_records.Goals as goal

pub loop-i-init : goal.loop-i-init
loop-i-init c = putting_start _ _ _ c.count-i-end.ensures (search rules)

pub slice_bounds-put_record-count : goal.slice_bounds-put_record-count
slice_bounds-put_record-count c = putting_within _ _ _ _ _ _ c.loop-i.invariant

pub slice_bounds-put_record-start : goal.slice_bounds-put_record-start
slice_bounds-put_record-start c = let h = putting_within _ _ _ _ _ _ c.loop-i.invariant in search rules

pub put_record-at-requires : goal.put_record-at-requires
put_record-at-requires c = record { bounds = search rules; i_bound = search rules; i_in_bounds = putting_room _ _ _ _ _ _ c.loop-i.invariant (omega arith) }

pub overflow_add-at : goal.overflow_add-at
overflow_add-at c = omega (arith, putting_within _ _ _ _ _ _ (putting_on _ _ _ _ _ _ c.loop-i.invariant (omega arith) _ _ c.put_record-at.ensures))

pub loop-i-preserved : goal.loop-i-preserved
loop-i-preserved c =
    putting_on _ _ _ _ _ _ c.loop-i.invariant (omega arith) _ _ c.put_record-at.ensures

pub shape_of-out : goal.shape_of-out
shape_of-out c = c.loop-i.invariant.long

pub returns : goal.returns
returns c = putting_done _ _ _ _ _ _ c.loop-i.invariant (omega arith)
