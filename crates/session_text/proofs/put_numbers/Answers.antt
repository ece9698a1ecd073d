-- The code, and the numbers behind it.
use Rattle.std.proofs.Common.{arith}
use Rattle.decimal.proofs.Texts.{length_byte}
use Rattle.session_text.proofs.Writes.{wrote_numbers}
use Rattle.session_text.proofs.put_numbers.Goals as goal

pub returns : goal.returns
returns c = wrote_numbers _ _ c.requires.code_bound _ _ _ c.put_decimal.ensures c.put_spaced.ensures

pub put_decimal-requires : goal.put_decimal-requires
put_decimal-requires c = omega (arith, length_byte c.args.code c.requires.code_bound)

pub put_spaced-requires : goal.put_spaced-requires
put_spaced-requires c = omega (arith, length_byte c.args.code c.requires.code_bound)
