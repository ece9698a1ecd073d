-- `saved_parts::options::options_at` meets its contract. Assumes nothing.
use Rattle.saved_parts.proofs.Gets.{options_read_lem}
use Rattle.saved_parts.proofs.options.options_at.Goals as goal

pub returns : goal.returns
returns c = options_read_lem _ _ _ c.get_u64.ensures c.get_u64-2.ensures c.get_u32.ensures
    c.get_u32-2.ensures c.get_u32-3.ensures c.get_u8.ensures
