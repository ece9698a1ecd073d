-- The loop has written k tags. Assumes nothing.
use mathlib.Core.Path.{refl}
use Rattle.storage.proofs.Slots.{tags_next, tags_all}
use borrow.Author.Rules.{rules}
use Rattle.storage.proofs.put_tags.Goals as goal

pub loop-k-init : goal.loop-k-init
loop-k-init c = (search rules, (refl, refl))

pub loop-k-preserved : goal.loop-k-preserved
loop-k-preserved c = tags_next _ _ _ _ _ c.loop-k.invariant (search rules) (cc)

pub returns : goal.returns
returns c = tags_all _ _ _ _ c.loop-k.invariant (search rules)
