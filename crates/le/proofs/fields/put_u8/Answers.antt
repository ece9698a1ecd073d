-- A byte stored at a place is the number of one byte put there.
use Rattle.le.proofs.Lens.{put_one}
use Rattle.le.proofs.fields.put_u8.Goals as goal

pub returns : goal.returns
returns c = put_one _ _ _ c.ranges.v.fits
