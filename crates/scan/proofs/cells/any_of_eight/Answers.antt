-- After k cells, whether one of them was hit.
use Rattle.scan.proofs.First.{none_hit, one_hit, not_hit, all_looked, cell_here, cell_other}
use borrow.Author.Rules.{rules}
use Rattle.scan.proofs.cells.any_of_eight.Goals as goal
use Rattle.scan.proofs.cells.any_of_eight.Goals.{then-get_u64-mask, else-get_u64-mask}

pub loop-k-init : goal.loop-k-init
loop-k-init c = none_hit _ _

pub loop-k-preserved : goal.loop-k-preserved
loop-k-preserved c =
    let l = c.loop-k in
    let g = c.get_u64 in
    elim c.if-get_u64-mask.branch [
      | then-get_u64-mask w ↦ rw w.hit-is (one_hit _ _ _ _ l.invariant (search rules) (cell_here _ _ _ _ _ _ g.ensures w.if-get_u64-mask.true))
      | else-get_u64-mask w ↦ rw w.hit-is (not_hit _ _ _ _ l.invariant (search rules) (cell_other _ _ _ _ _ _ g.ensures w.if-get_u64-mask.false))
    ]

pub returns : goal.returns
returns c = all_looked _ _ _ _ c.loop-k.invariant (search rules)
