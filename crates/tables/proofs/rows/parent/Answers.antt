-- The cell that is read is the row's parent.
use mathlib.Core.Path.{sym}
use Rattle.tables.proofs.Cells.{parent_at_lem}
use Rattle.tables.proofs.rows.parent.Goals as goal

pub returns : goal.returns
returns c = rw (c.get_u64.ensures, c.at.ensures, c.capacity-n.ensures) (sym (parent_at_lem _ _ _))
