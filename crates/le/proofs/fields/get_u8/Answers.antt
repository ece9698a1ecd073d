-- The byte at a place is the number of one byte there.
use Rattle.le.proofs.Lens.{get_one}
use Rattle.le.proofs.fields.get_u8.Goals as goal

pub returns : goal.returns
returns c = get_one _ _
