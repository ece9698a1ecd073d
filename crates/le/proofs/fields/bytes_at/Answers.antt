-- The part has N bytes, so it is an array of N.
use mathlib.Core.Path.{◌∙◌}
use Rattle.le.proofs.Slices.{part_run}
use Rattle.le.proofs.fields.bytes_at.Goals as goal

pub returns : goal.returns
returns g c = (rw c.unwrap.ensures at c.try_from.ensures.1).same ∙ part_run _ _ _ c.requires
