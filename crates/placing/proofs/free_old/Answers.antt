-- The slot of the index is read, then emptied; without a mount all stays. Assumes nothing.
use borrow.Author.Rules.{rules}
use Rattle.placing.proofs.Returns.{frees_point, frees_none}
use Rattle.tables.proofs.Keeps.{laid_long, laid_is}
use Rattle.placing.proofs.free_old.Goals as goal

pub tag_of-tag-requires : goal.tag_of-tag-requires
tag_of-tag-requires c = search (laid_long, laid_is, rules)

pub free-requires : goal.free-requires
free-requires c = search (laid_long, laid_is, rules)

pub returns-in_err-k : goal.returns-in_err-k
returns-in_err-k c = rw c.from_residual.ensures (frees_none _ _ c.in_err-k.was)

pub returns : goal.returns
returns c = frees_point _ _ _ _ _ c.in_ok-k.was (search rules) c.tag_of-tag.ensures c.free.ensures
