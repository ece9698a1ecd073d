-- `test_expand::expanded` meets its contract. The invariant: n bytes stand, and with the rest of the line the whole text will. Assumes nothing.
use Rattle.std.proofs.Common.{arith, sym, ◌∙◌}
use Rattle.test_words.proofs.Filling.{rest_all, ended}
use Rattle.test_expand.proofs.Expanding.{part_more, line_end, line_plain, named_long, line_number}
use Rattle.test_expand.proofs.expanded.Goals as goal
use Rattle.test_expand.proofs.expanded.Goals.{in-Some, in-None}

pub loop-rest-init : goal.loop-rest-init
loop-rest-init c = rest_all _ _ _

pub slice_bounds-len-count : goal.slice_bounds-len-count
slice_bounds-len-count c = named_long _ _ (sym c.named.ensures ∙ c.in-Some.is)

pub slice_bounds-len-start : goal.slice_bounds-len-start
slice_bounds-len-start c = named_long _ _ (sym c.named.ensures ∙ c.in-Some.is)

pub loop-rest-preserved : goal.loop-rest-preserved
loop-rest-preserved c =
    elim c.match-named.branch [
      | in-Some w ↦ rw (w.out-is, w.len-is) (part_more _ _ _ _ _ _ c.loop-rest.auto.out (line_number _ _ _ _ (sym c.named.ensures ∙ w.in-Some.is) w.number_at.ensures) w.put_number.ensures c.loop-rest.invariant)
      | in-None w ↦ rw (w.out-is, w.len-is) (part_more _ _ _ _ _ _ c.loop-rest.auto.out (line_plain _ _ (omega arith) (sym c.named.ensures ∙ w.in-None.is)) w.put_byte.ensures c.loop-rest.invariant)
    ]

pub returns : goal.returns
returns c = ended _ (omega arith) (line_end _ _ (omega arith)) c.loop-rest.invariant
