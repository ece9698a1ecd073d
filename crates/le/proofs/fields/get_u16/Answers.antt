-- The library's number of 2 bytes.
use Rattle.le.proofs.Words.{value_2}
use Rattle.le.proofs.fields.get_u16.Goals as goal

pub returns : goal.returns
returns c = rw c.from_le_bytes.ensures (rw c.bytes_at.ensures (value_2 _ _))
