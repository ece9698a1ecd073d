-- `saved_parts::options::start` meets its contract. Assumes nothing.
use native.Mathlib.Omega.{arith}
use Rattle.rules.proofs.Encoded.{options_start_lem}
use Rattle.saved_parts.proofs.options.start.Goals as goal

pub returns : goal.returns
returns c = omega (arith, options_start_lem c.args.b.now c.requires)
