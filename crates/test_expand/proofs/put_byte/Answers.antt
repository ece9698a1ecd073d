-- `test_expand::put_byte` meets its contract. Assumes nothing.
use Rattle.std.proofs.Common.{arith}
use Rattle.std.proofs.lemmas.Bool.Decides.{nat_tests}
use Rattle.test_expand.proofs.Expanding.{wrote_none, wrote_one}
use Rattle.test_expand.proofs.put_byte.Goals as goal

pub returns-then-is_empty : goal.returns-then-is_empty
returns-then-is_empty c = wrote_none _ _ (grind (arith, nat_tests))

pub returns : goal.returns
returns c = wrote_one _ _ (grind (arith, nat_tests))
