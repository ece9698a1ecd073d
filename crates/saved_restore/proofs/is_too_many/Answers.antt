-- N and the number of records are those of the rule. Assumes nothing.
use Rattle.saved_restore.proofs.StateTests.{many_by}
use Rattle.saved_restore.proofs.is_too_many.Goals as goal

pub returns : goal.returns
returns c = many_by _ _ _ _ c.capacity.ensures c.count_of.ensures
