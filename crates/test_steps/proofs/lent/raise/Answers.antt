-- `test_steps::lent::raise` meets its contract. Assumes nothing.
use Rattle.test_steps.proofs.Setting.{raise_is}
use borrow.Author.Rules.{rules}
use Rattle.test_steps.proofs.lent.raise.Goals as goal

pub returns : goal.returns
returns c = raise_is _ _ _ _ _ _ _ c.least.ensures c.byte_at-b.ensures (search rules) c.put_byte.ensures
