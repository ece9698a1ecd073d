-- The occupancy byte of the slot is written.
use mathlib.Core.Path.{◌≡◌, ◌∙◌}
use Rattle.tables.specs.Write.{yes_byte}
use Rattle.tables.proofs.Writes.{put_held}
use Rattle.tables.proofs.slots.set_held.Goals as goal
use Rattle.tables.proofs.slots.set_held.Goals.{then-held, else-held}

pub returns : goal.returns
returns c =
    let b : c.if-held.byte ≡ yes_byte c.args.held =
    elim c.if-held.branch [ then-held w ↦ (w.byte-is ∙ rw w.if-held.true) | else-held w ↦ (w.byte-is ∙ rw w.if-held.false) ] in
    c.put_u8.ensures ∙ rw (c.held_at.ensures, b) (put_held _ _ _)
