-- The byte is the cell of the remove flag.
use mathlib.Core.Path.{◌∙◌}
use Rattle.tables.proofs.Writes.{put_removal}
use Rattle.tables.proofs.header.set_removes.Goals as goal

pub returns : goal.returns
returns c = c.put_u8.ensures ∙ put_removal _
