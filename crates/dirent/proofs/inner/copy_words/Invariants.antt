-- The loop has copied i words; the first is copied before it.
use Rattle.dirent.proofs.Long.{Copied}
use Rattle.dirent.proofs.inner.copy_words.Given as goal

abbrev pub invariant-loop-i : goal.invariant-loop-i
invariant-loop-i l = Copied l.initial.dst l.at l.src l.from l.n l.dst l.i
