-- `test_steps::lent::put_word` meets its contract: by whether eight bytes are there. Assumes nothing.
use Rattle.test_steps.proofs.Setting.{word_is, word_none}
use borrow.Author.Rules.{rules}
use Rattle.test_steps.proofs.lent.put_word.Goals as goal

pub returns-then-s-from-ge8 : goal.returns-then-s-from-ge8
returns-then-s-from-ge8 c = word_is _ _ _ _ c.least-from.ensures 8 _ (search rules) (search rules) c.put_u64.ensures

pub returns-else-s-from-ge8 : goal.returns-else-s-from-ge8
returns-else-s-from-ge8 c = word_none _ _ _ _ c.least-from.ensures 8 (search rules)
