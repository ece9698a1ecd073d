-- The two cells of the slot are written.
use mathlib.Core.Path.{◌∙◌}
use Rattle.tables.specs.Write.{set_slot}
use Rattle.tables.proofs.slots.free.Goals as goal

pub returns : goal.returns
unfolding set_slot
returns c =
    c.set_tag.ensures ∙ rw c.set_held.ensures
