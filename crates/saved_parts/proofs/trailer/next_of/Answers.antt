-- `saved_parts::trailer::next_of` meets its contract. Assumes nothing.
use borrow.Author.Rules.{rules}
use Rattle.rules.specs.Saved.{trailer_next_field, saved_next}
use Rattle.saved_parts.proofs.Gets.{trailer_room, trailer_by}
use Rattle.saved_parts.proofs.trailer.next_of.Goals as goal

pub overflow_add-start : goal.overflow_add-start
overflow_add-start c = let l = trailer_room _ _ c.requires c.start.ensures in search rules

pub get_u64-requires : goal.get_u64-requires
get_u64-requires c = let l = trailer_room _ _ c.requires c.start.ensures in search rules

pub returns : goal.returns
unfolding saved_next
returns c = trailer_by trailer_next_field _ _ _ c.start.ensures c.get_u64.ensures
