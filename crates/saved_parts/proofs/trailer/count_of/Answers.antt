-- `saved_parts::trailer::count_of` meets its contract. Assumes nothing.
use borrow.Author.Rules.{rules}
use Rattle.rules.specs.Saved.{trailer_records_field, saved_records}
use Rattle.saved_parts.proofs.Gets.{trailer_room, trailer_by}
use Rattle.saved_parts.proofs.trailer.count_of.Goals as goal

pub overflow_add-start : goal.overflow_add-start
overflow_add-start c = let l = trailer_room _ _ c.requires c.start.ensures in search rules

pub get_u32-requires : goal.get_u32-requires
get_u32-requires c = let l = trailer_room _ _ c.requires c.start.ensures in search rules

pub returns : goal.returns
unfolding saved_records
returns c = trailer_by trailer_records_field _ _ _ c.start.ensures c.get_u32.ensures
