-- `saved_parts::trailer::start` meets its contract. Assumes nothing.
use native.Mathlib.Omega.{arith}
use Rattle.rules.proofs.Encoded.{trailer_start_lem}
use Rattle.saved_parts.proofs.trailer.start.Goals as goal

pub returns : goal.returns
returns c = omega (arith, trailer_start_lem c.args.b.now c.requires)
