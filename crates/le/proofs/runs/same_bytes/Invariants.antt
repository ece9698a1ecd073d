-- After i bytes that are equal the rest of the two runs decides.
use Rattle.le.proofs.Turns.{Rest}
use Rattle.le.proofs.runs.same_bytes.Given as goal

abbrev pub invariant-loop-i : goal.invariant-loop-i
invariant-loop-i l = Rest l.a l.p l.b l.q l.len l.i
