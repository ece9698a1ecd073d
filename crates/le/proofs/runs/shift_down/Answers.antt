-- The loop has moved i bytes of the run; the next one lies above all that is written.
use Prim.Native.Nat.{◌+◌}
use Rattle.le.specs.Mem.{read}
use Rattle.le.proofs.Turns.{all_written, moved}
use borrow.Author.Rules.{rules}
use Rattle.le.proofs.runs.shift_down.Goals as goal

pub loop-i-init : goal.loop-i-init
unfolding read
loop-i-init c = search rules

pub loop-i-preserved : goal.loop-i-preserved
loop-i-preserved c = moved _ _ _ _ _ _ (search rules) c.loop-i.invariant (search rules)

pub returns : goal.returns
returns c = let a = c.args in all_written _ _ (read a.s.now (a.to + a.by)) _ _ _ c.loop-i.invariant (search rules)
