-- The loop has copied i words; the first is copied before it.
use Rattle.dirent.proofs.Long.{copied_none, copied_next, copied_all}
use borrow.Author.Rules.{rules}
use Rattle.dirent.proofs.inner.copy_words.Goals as goal

pub loop-i-init : goal.loop-i-init
loop-i-init c = copied_none _ _ _ _ _ (search rules)

pub loop-i-preserved : goal.loop-i-preserved
loop-i-preserved c =
    copied_next _ _ _ _ _ (λ i. (c.type_inv.src i).fits) _ _ c.loop-i.invariant (search rules) _ _ c.get_u64-in-loop-i.ensures
    c.put_u64-in-loop-i.ensures

pub returns : goal.returns
returns c =
    copied_all _ _ _ _ _ (λ i. (c.type_inv.src i).fits) _ _ _ _ c.get_u64.ensures c.put_u64.ensures c.loop-i.invariant (search rules)
