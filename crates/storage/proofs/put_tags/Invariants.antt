-- The loop has written k tags. Assumes nothing.
use Rattle.storage.proofs.Slots.{Tags}
use Rattle.storage.proofs.put_tags.Given as goal

abbrev pub invariant-loop-k : goal.invariant-loop-k
invariant-loop-k l = Tags l.initial.s l.tags l.s l.k
