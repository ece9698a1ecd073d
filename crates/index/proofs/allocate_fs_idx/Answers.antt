-- `index::allocate_fs_idx` meets its contract. The loop's invariant is `Going`: what is to be found from the counter is what is to be found from here.
-- Assumes nothing.
use Rattle.std.proofs.Common.{sym, refl, ◌∙◌, arith}
use Rattle.index.proofs.Going.{begins, passes, ends_found, ends_full}
use Rattle.index.proofs.allocate_fs_idx.Goals as goal
use Rattle.index.proofs.allocate_fs_idx.Goals.{else-index-next_super-via-then-index-next_super+else-count-gt1, else-index-next_super-via-else-index-next_super}

pub loop-index-init : goal.loop-index-init
loop-index-init c = begins _ _ (omega arith)

pub loop-index-preserved : goal.loop-index-preserved
loop-index-preserved c =
    (passes _ _ _ _ c.loop-index.invariant (sym c.is_free.ensures ∙ c.if-is_free.false) (λ s. elim c.else-index-next_super.branch [ else-index-next_super-via-then-index-next_super+else-count-gt1 w ↦ omega arith | else-index-next_super-via-else-index-next_super w ↦ absurd (w.if-index-next_super.false s) ]))

pub returns-then-count-gt1 : goal.returns-then-count-gt1
returns-then-count-gt1 c = ends_full _ _ _ _ c.loop-index.invariant c.if-index-next_super.true (omega arith) _ refl

pub returns-then-is_free : goal.returns-then-is_free
returns-then-is_free c =
    ends_found _ _ _ _ c.loop-index.invariant (sym c.is_free.ensures ∙ c.if-is_free.true) _ refl
