-- `test_words::sums::with_run` meets its contract. Assumes nothing.
use Rattle.std.proofs.Common.{rules}
use Rattle.test_words.specs.Adler.{adler}
use Rattle.test_words.proofs.sums.with_run.Goals as goal

pub returns : goal.returns
unfolding adler
returns c = search rules
