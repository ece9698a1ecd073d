-- `saved_parts::trailer::offset_of` meets its contract. Assumes nothing.
use borrow.Author.Rules.{rules}
use Rattle.rules.specs.Saved.{trailer_offset_field, saved_offset}
use Rattle.saved_parts.proofs.Gets.{trailer_room, trailer_by}
use Rattle.saved_parts.proofs.trailer.offset_of.Goals as goal

pub get_u32-requires : goal.get_u32-requires
get_u32-requires c = let l = trailer_room _ _ c.requires c.start.ensures in search rules

pub returns : goal.returns
unfolding saved_offset
returns c = trailer_by trailer_offset_field _ _ _ c.start.ensures c.get_u32.ensures
