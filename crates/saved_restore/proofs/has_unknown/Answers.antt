-- The mask and the two words are those of the rule. Assumes nothing.
use borrow.Author.Rules.{rules}
use Rattle.saved_restore.proofs.StateTests.{bits_by}
use Rattle.saved_restore.proofs.has_unknown.Goals as goal

pub returns : goal.returns
returns c = search (bits_by, rules)
