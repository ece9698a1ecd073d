-- One law where the entry fits, one where it does not.
use Rattle.dirent.proofs.Long.{long_in, long_out}
use borrow.Author.Rules.{rules}
use Rattle.dirent.proofs.inner.write_long.Goals as goal

pub returns-then-out-size : goal.returns-then-out-size
returns-then-out-size c = long_out _ _ _ _ (search rules) _ _ _ (search rules)

pub returns : goal.returns
returns c =
    long_in _ _ _ _ (search rules) _ _ _ _ _ _ c.whole-size.ensures (search rules) c.put_front.ensures c.put_long.ensures
