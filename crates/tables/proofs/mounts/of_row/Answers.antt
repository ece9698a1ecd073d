-- The cells are the row's.
use mathlib.Core.Path.{sym, ◌∙◌}
use Rattle.tables.proofs.Cells.{mount_at}
use Rattle.tables.proofs.mounts.of_row.Goals as goal

pub returns : goal.returns
returns c = c.read.ensures ∙ rw (c.row_cells.ensures, c.capacity.ensures) (sym (mount_at _ _ _))
