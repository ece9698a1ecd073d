-- The tag's cell of the slot is written.
use mathlib.Core.Path.{◌∙◌}
use Rattle.tables.proofs.Writes.{put_tag}
use Rattle.tables.proofs.slots.set_tag.Goals as goal

pub returns : goal.returns
returns c =
    c.put_u32.ensures ∙ rw c.tag_at-at.ensures (put_tag _ _ _)
