-- The length is the first byte of the cell.
use Rattle.row_name.proofs.Names.{name_size}
use borrow.Author.Rules.{rules}
use Rattle.row_name.proofs.name_len.Goals as goal

pub returns : goal.returns
returns c = rw (← c.capacity-n.ensures) (name_size _ _ _ _ (rw c.at.ensures at c.get_u8.ensures) (search rules))
