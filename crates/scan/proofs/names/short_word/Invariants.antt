-- After the bytes from i on, the number that they spell.
use Rattle.scan.proofs.Keys.{Spelt}
use Rattle.scan.proofs.names.short_word.Given as goal

abbrev pub invariant-loop-i : goal.invariant-loop-i
invariant-loop-i l = Spelt l.name l.v l.i

abbrev pub decreases-loop-i : goal.decreases-loop-i
decreases-loop-i l = l.i
