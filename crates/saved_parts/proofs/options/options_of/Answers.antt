-- `saved_parts::options::options_of` meets its contract. Assumes nothing.
use borrow.Author.Rules.{rules}
use Rattle.saved_parts.proofs.Gets.{options_room}
use Rattle.saved_parts.proofs.options.options_of.Goals as goal

pub options_at-requires : goal.options_at-requires
options_at-requires c = let l = options_room _ _ c.requires c.start.ensures in search rules
