-- `saved_parts::records::name_at` meets its contract. Assumes nothing.
use Rattle.saved_parts.proofs.Gets.{name_is}
use Rattle.saved_parts.proofs.records.name_at.Goals as goal

pub returns : goal.returns
returns c = name_is _ _ _ c.record_end.ensures c.requires
