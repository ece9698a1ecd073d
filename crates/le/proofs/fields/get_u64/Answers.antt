-- The library's number of 8 bytes.
use Rattle.le.proofs.Words.{value_8}
use Rattle.le.proofs.fields.get_u64.Goals as goal

pub returns : goal.returns
returns c = rw c.from_le_bytes.ensures (rw c.bytes_at.ensures (value_8 _ _))
