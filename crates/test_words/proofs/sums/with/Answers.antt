-- `test_words::sums::with` meets its contract. Assumes nothing.
use mathlib.Core.Path.{refl}
use Rattle.test_words.specs.Adler.{summed}
use Rattle.test_words.proofs.sums.with.Goals as goal

pub returns : goal.returns
unfolding summed
returns c = refl
