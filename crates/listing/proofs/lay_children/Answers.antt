-- After i rows, the children among the others are to be laid behind what is written; a law for each way round, and where the ways meet one for all.
use mathlib.Core.Path.{sym, ◌∙◌}
use native.Mathlib.Omega.{arith}
use Rattle.listing.proofs.Rest.{listing_start, listing_done, listing_not, listing_skip, listing_laid, listing_full, listing_as}
use borrow.Author.Rules.{rules}
use Rattle.listing.proofs.lay_children.Goals as goal
use Rattle.listing.proofs.lay_children.Goals.{then-parent-x+then-offset-place+else-n-eq0, then-parent-x+else-offset-place, else-parent-x}

pub loop-i-init : goal.loop-i-init
loop-i-init c = listing_start _ _ _ _ _ _ c.count-count.ensures (search rules)

pub returns-then-n-eq0 : goal.returns-then-n-eq0
returns-then-n-eq0 c =
    listing_full _ _ _ _ _ _ _ _ _ _ c.loop-i.invariant c.loop-i-test.true
    (sym c.parent.ensures ∙ c.if-parent-x.true) (search rules) _ _ c.lay_row-n.ensures c.if-n-eq0.true

pub overflow_add-at : goal.overflow_add-at
overflow_add-at c =
    omega (
      arith,
      (listing_laid _ _ _ _ _ _ _ _ _ _ c.loop-i.invariant c.loop-i-test.true
          (sym c.parent.ensures ∙ c.if-parent-x.true) (search rules) _ _ c.lay_row-n.ensures c.if-n-eq0.false).going.within,
    )

pub loop-i-preserved : goal.loop-i-preserved
loop-i-preserved c =
    let l = c.loop-i.invariant in
    let h = c.loop-i-test.true in
    let e = c.parent.ensures in
    elim c.if-parent-x.branch [
      | then-parent-x+then-offset-place+else-n-eq0 w ↦ listing_as _ _ _ _ _ _ _ _ _ _ (listing_laid _ _ _ _ _ _ _ _ _ _ l h (sym e ∙ w.if-parent-x.true) w.if-offset-place.true _ _ w.lay_row-n.ensures w.if-n-eq0.false) _ _ _ w.out-is w.place-is w.at-is
      | then-parent-x+else-offset-place w ↦ listing_as _ _ _ _ _ _ _ _ _ _ (listing_skip _ _ _ _ _ _ _ _ _ _ l h (sym e ∙ w.if-parent-x.true) w.if-offset-place.false) _ _ _ w.out-is w.place-is w.at-is
      | else-parent-x w ↦ listing_as _ _ _ _ _ _ _ _ _ _ (listing_not _ _ _ _ _ _ _ _ _ _ l h (λ q. w.if-parent-x.false (e ∙ q))) _ _ _ w.out-is w.place-is w.at-is
    ]

pub returns : goal.returns
returns c = listing_done _ _ _ _ _ _ _ _ _ _ c.loop-i.invariant (search rules)
