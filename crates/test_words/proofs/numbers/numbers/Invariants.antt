-- `test_words::numbers::numbers` meets its contract. The invariant: the numbers so far stand. Assumes nothing.
use Rattle.std.proofs.Common.{◌≡◌, map}
use Rattle.rules.specs.Session.{shown}
use Rattle.test_words.proofs.numbers.numbers.Given as goal

abbrev pub invariant-loop-k : goal.invariant-loop-k
invariant-loop-k l = l.r ≡ shown 8 (map (λ p. p.1) l.yielded)
