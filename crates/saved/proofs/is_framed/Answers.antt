-- `saved::is_framed` meets its contract. Assumes nothing.
use Rattle.std.proofs.Common.{arith}
use Rattle.std.proofs.lemmas.Grind.{common_steps}
use Rattle.rules.specs.Tests.{every}
use Rattle.saved.specs.Scan.{framed}
use Rattle.saved.proofs.is_framed.Goals as goal

pub returns-then-flags_of-from : goal.returns-then-flags_of-from
unfolding framed every
returns-then-flags_of-from c = grind (arith, common_steps)

pub returns-else-flags_of-from : goal.returns-else-flags_of-from
unfolding framed every
returns-else-flags_of-from c = grind (arith, common_steps)
