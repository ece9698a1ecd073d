-- The first field ends at the first space.
use Rattle.session_line.proofs.Fields.{within, cuts}
use Rattle.session_line.proofs.parsing.cut.Goals as goal

pub split_at-requires : goal.split_at-requires
split_at-requires c = within _ _ c.part_end-end.ensures

pub returns : goal.returns
returns c = cuts _ _ c.part_end-end.ensures _ _ _ c.split_at.ensures.front c.split_at.ensures.back c.get.ensures.lookup
