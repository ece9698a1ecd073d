-- One number is laid.
use Rattle.dirent.proofs.Short.{bit_some, short_word}
use borrow.Author.Rules.{rules}
use Rattle.dirent.proofs.inner.put_short.Goals as goal

pub nonzero_rem-word : goal.nonzero_rem-word
nonzero_rem-word c = bit_some _ (search rules)

pub returns : goal.returns
returns c = short_word _ _ (search rules) _ _ _ (search rules) c.put_u64.ensures
