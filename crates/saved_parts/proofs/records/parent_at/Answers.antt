-- `saved_parts::records::parent_at` meets its contract. Assumes nothing.
use borrow.Author.Rules.{rules}
use Rattle.rules.specs.Saved.{saved_node_at}
use Rattle.saved_parts.proofs.records.parent_at.Goals as goal

pub returns : goal.returns
unfolding saved_node_at
returns c = search rules
