-- `saved::is_sound` meets its contract. Assumes nothing.
use Rattle.std.proofs.Common.{arith}
use Rattle.std.proofs.lemmas.Grind.{common_steps}
use Rattle.rules.specs.Tests.{every}
use Rattle.saved.specs.Scan.{sound}
use Rattle.saved.proofs.is_sound.Goals as goal

pub returns-then-number-next : goal.returns-then-number-next
unfolding sound every
returns-then-number-next c = grind (arith, common_steps)

pub returns-else-number-next : goal.returns-else-number-next
unfolding sound every
returns-else-number-next c = grind (arith, common_steps)
