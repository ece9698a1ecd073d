-- The library's number of 4 bytes.
use Rattle.le.proofs.Words.{value_4}
use Rattle.le.proofs.fields.get_u32.Goals as goal

pub returns : goal.returns
returns c = rw c.from_le_bytes.ensures (rw c.bytes_at.ensures (value_4 _ _))
