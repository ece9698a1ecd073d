-- The cell that is read is the row's number.
use mathlib.Core.Path.{sym}
use Rattle.tables.proofs.Cells.{number_at_lem}
use Rattle.tables.proofs.rows.number.Goals as goal

pub returns : goal.returns
returns c = rw (c.get_u64.ensures, c.number_at.ensures) (sym (number_at_lem _ _ _))
