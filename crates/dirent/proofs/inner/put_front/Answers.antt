-- Field by field.
use Rattle.dirent.proofs.Records.{front_fields}
use Rattle.dirent.proofs.inner.put_front.Goals as goal

pub returns : goal.returns
returns c =
    front_fields _ _ _ _ _ _ _ _ _ c.put_u64.ensures c.put_u64-2.ensures
    c.put_u32.ensures c.put_u32-2.ensures
