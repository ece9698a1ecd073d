-- `test_words::hex::decoded` meets its contract. The invariant: n bytes stand, and with what is left to spell the whole text will. Assumes nothing.
use Rattle.std.proofs.Common.{length, take}
use Rattle.test_words.specs.Spelt.{percent_bytes}
use Rattle.test_words.proofs.Filling.{Rest}
use Rattle.test_words.proofs.hex.decoded.Given as goal

abbrev pub invariant-loop-n : goal.invariant-loop-n
invariant-loop-n l = Rest (length l.initial.out) 0 (take (length l.initial.out) (percent_bytes l.w)) l.initial.out l.out l.n (percent_bytes l.rest)

abbrev pub decreases-loop-n : goal.decreases-loop-n
decreases-loop-n l = length l.rest
