-- The library's 2 bytes of a number, written at the place.
use mathlib.Core.Path.{◌∙◌}
use Rattle.le.proofs.Words.{low_put}
use Rattle.le.proofs.fields.put_u16.Goals as goal

pub returns : goal.returns
returns c = c.copy_at.ensures ∙ low_put 2 _ _ _ c.args.v c.to_le_bytes.ensures
