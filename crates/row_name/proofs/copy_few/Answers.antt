-- The loop has copied i bytes of the run.
use Rattle.le.specs.Mem.{read}
use Rattle.row_name.proofs.Runs.{next_copied, all_copied}
use borrow.Author.Rules.{rules}
use Rattle.row_name.proofs.copy_few.Goals as goal

pub loop-i-init : goal.loop-i-init
unfolding read
loop-i-init c = search rules

pub loop-i-preserved : goal.loop-i-preserved
loop-i-preserved c = next_copied _ _ _ _ _ _ _ c.loop-i.invariant (search rules)

pub returns : goal.returns
returns c = all_copied _ _ _ _ _ _ _ c.loop-i.invariant (search rules)
