-- The two columns of a new table of indexes are copied. Assumes nothing.
use mathlib.Core.Path.{◌∙◌}
use Rattle.storage.proofs.Slots.{slots_new}
use Rattle.storage.proofs.put_slots.Goals as goal

pub returns : goal.returns
returns c = c.put_tags.ensures ∙ (rw c.copy_at.ensures (slots_new _ _ c.new-t.ensures))
