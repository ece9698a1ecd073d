-- A sum that has no place in 32 bits is above their largest number.
use Rattle.std.proofs.Common.{arith}
use Rattle.std.proofs.lemmas.Bool.Decides.{nat_tests}
use Rattle.std.proofs.lemmas.Grind.{common_steps}
use Rattle.rules.specs.Ids.{bad_mapping}
use Rattle.id_map.proofs.is_bad.Goals as goal

pub returns-then-is_none : goal.returns-then-is_none
unfolding bad_mapping
returns-then-is_none c = grind (arith, nat_tests, common_steps)

pub returns-else-is_none : goal.returns-else-is_none
unfolding bad_mapping
returns-else-is_none c = grind (arith, nat_tests, common_steps)
