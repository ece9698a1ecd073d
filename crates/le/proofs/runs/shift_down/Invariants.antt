-- The loop has moved i bytes of the run; the next one lies above all that is written.
use Prim.Native.Nat.{◌+◌}
use Rattle.le.specs.Mem.{read}
use Rattle.le.proofs.Turns.{Written}
use Rattle.le.proofs.runs.shift_down.Given as goal

abbrev pub invariant-loop-i : goal.invariant-loop-i
invariant-loop-i l = Written l.initial.s l.to (read l.initial.s (l.to + l.by)) l.len l.s l.i
