-- `test_words::hex::pairs` meets its contract. The invariant: n bytes stand, and with what is left to spell the whole text will. Assumes nothing.
use Rattle.std.proofs.Common.{length, take, drop}
use Rattle.test_words.specs.Spelt.{hex_bytes}
use Rattle.test_words.proofs.Filling.{Rest}
use Rattle.test_words.proofs.hex.pairs.Given as goal

abbrev pub invariant-loop-n : goal.invariant-loop-n
invariant-loop-n l = Rest (length l.initial.out) 0 (take (length l.initial.out) (hex_bytes (drop l.at l.s))) l.initial.out l.out l.n (hex_bytes l.rest)

abbrev pub decreases-loop-n : goal.decreases-loop-n
decreases-loop-n l = length l.rest
