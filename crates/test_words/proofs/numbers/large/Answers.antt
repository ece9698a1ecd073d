-- `test_words::numbers::large` meets its contract: by the law of `replicate`'s length, which antt then does not compute. Assumes nothing.
use Prim.Native.Nat.{ℕ}
use mathlib.Core.Path.{refl, sym}
use lib.ListN.{length-replicate}
use Rattle.test_words.proofs.numbers.large.Goals as goal

pub returns : goal.returns
returns c = (refl, sym (length-replicate {0} {A = ℕ} 851968 0))
