-- The three numbers are the header's cells 7 to 9.
use Rattle.le.specs.Mem.{get}
use Rattle.tables.specs.Table.{row}
use Rattle.tables.proofs.header.mapping.Goals as goal

pub returns : goal.returns
unfolding get row
returns c = c.mapping_at.ensures
