-- `saved_parts::options::flags_of` meets its contract. Assumes nothing.
use borrow.Author.Rules.{rules}
use Rattle.saved_parts.proofs.Gets.{options_room, flags_by}
use Rattle.saved_parts.proofs.options.flags_of.Goals as goal

pub overflow_add-start : goal.overflow_add-start
overflow_add-start c = let l = options_room _ _ c.requires c.start.ensures in search rules

pub get_u32-requires : goal.get_u32-requires
get_u32-requires c = let l = options_room _ _ c.requires c.start.ensures in search rules

pub returns : goal.returns
returns c = flags_by _ _ _ c.start.ensures c.get_u32.ensures
