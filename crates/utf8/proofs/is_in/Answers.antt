-- The byte that is read, against both ends of the range.
use Rattle.std.proofs.Common.{arith}
use Rattle.std.proofs.lemmas.Grind.{common_steps}
use Rattle.utf8.proofs.Table.{fits_one, fits_out}
use Rattle.utf8.proofs.is_in.Goals as goal

pub returns : goal.returns
returns c = grind (arith, common_steps, fits_one, fits_out)
