-- The row is the first whose cell is the number.
use mathlib.Core.Path.{◌∙◌}
use Rattle.tables.proofs.Alike.{row_sought}
use Rattle.tables.proofs.rows.find_row.Goals as goal

pub returns : goal.returns
returns c = c.find_cell.ensures ∙ rw c.count-c.ensures (row_sought _ _)
