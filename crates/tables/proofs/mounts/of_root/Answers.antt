-- The cells are the header's cells 17 to 20.
use Rattle.le.specs.Mem.{get}
use Rattle.tables.specs.Table.{row}
use Rattle.tables.specs.View.{view}
use Rattle.tables.proofs.mounts.of_root.Goals as goal

pub returns : goal.returns
unfolding get row view
returns c = c.read.ensures
