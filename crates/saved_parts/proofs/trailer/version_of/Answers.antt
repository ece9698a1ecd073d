-- `saved_parts::trailer::version_of` meets its contract. Assumes nothing.
use borrow.Author.Rules.{rules}
use Rattle.saved_parts.proofs.Gets.{trailer_room, version_by}
use Rattle.saved_parts.proofs.trailer.version_of.Goals as goal

pub overflow_add-start : goal.overflow_add-start
overflow_add-start c = let l = trailer_room _ _ c.requires c.start.ensures in search rules

pub get_u64-requires : goal.get_u64-requires
get_u64-requires c = let l = trailer_room _ _ c.requires c.start.ensures in search rules

pub returns : goal.returns
returns c = version_by _ _ _ (λ i. (c.type_inv.b i).fits) c.start.ensures c.get_u64.ensures
