-- The cells are those of the names' column.
use mathlib.Core.Path.{◌∙◌}
use native.Mathlib.Nat.{add-zero}
use Rattle.tables.proofs.rows.next_alike.Goals as goal

pub returns : goal.returns
returns c = c.find_cell.ensures ∙ rw (c.at.ensures, c.capacity-n.ensures, c.count-c.ensures, add-zero)
