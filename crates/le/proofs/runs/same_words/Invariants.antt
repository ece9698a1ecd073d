-- After i words that are equal the rest of the two runs decides.
use Prim.Native.Nat.{◌*◌}
use Rattle.le.proofs.Turns.{Rest}
use Rattle.le.proofs.runs.same_words.Given as goal

abbrev pub invariant-loop-i : goal.invariant-loop-i
invariant-loop-i l = Rest l.a l.p l.b l.q l.len (8 * l.i)
