-- `saved::is_good_name` meets its contract. Assumes nothing.
use Rattle.std.proofs.Common.{arith}
use Rattle.std.proofs.lemmas.Grind.{common_steps}
use Rattle.rules.specs.Tests.{every}
use Rattle.rules.specs.Saved.{good_name}
use Rattle.saved.proofs.is_good_name.Goals as goal

pub returns-then-not-is_dots : goal.returns-then-not-is_dots
unfolding good_name every
returns-then-not-is_dots c = grind (arith, common_steps)

pub returns-else-not-is_dots : goal.returns-else-not-is_dots
unfolding good_name every
returns-else-not-is_dots c = grind (arith, common_steps)
