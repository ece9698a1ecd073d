-- The byte is the cell of the counter.
use mathlib.Core.Path.{◌∙◌}
use Rattle.tables.proofs.Writes.{put_counter}
use Rattle.tables.proofs.header.set_counter.Goals as goal

pub returns : goal.returns
returns c = c.put_u8.ensures ∙ put_counter _ _
