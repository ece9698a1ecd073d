-- The numbers are the header's. Assumes nothing.
use Rattle.storage.proofs.Answers.{options_by}
use Rattle.storage.proofs.inner.options_in.Goals as goal

pub returns : goal.returns
returns c =
    options_by _ _ c.get_u64.ensures c.get_u64-2.ensures c.mapping_at.ensures c.get_u8.ensures
