-- The number is that of the cell.
use Rattle.row_name.proofs.name_cell.Goals as goal

pub returns : goal.returns
returns c = rw (← c.capacity-n.ensures, ← c.at.ensures) c.get_u64.ensures
