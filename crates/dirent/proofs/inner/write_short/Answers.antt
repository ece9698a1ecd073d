-- One law where the entry fits, one where it does not.
use Rattle.dirent.proofs.Short.{short_in, short_out}
use borrow.Author.Rules.{rules}
use Rattle.dirent.proofs.inner.write_short.Goals as goal

pub returns-then-out-lt-SHORT : goal.returns-then-out-lt-SHORT
returns-then-out-lt-SHORT c = short_out _ _ (search rules) _ _ _ (search rules) c.if-out-lt-SHORT.true

pub returns : goal.returns
returns c =
    short_in _ _ (search rules) _ _ _ (search rules) _ _ (search rules) c.put_front.ensures c.put_short.ensures
