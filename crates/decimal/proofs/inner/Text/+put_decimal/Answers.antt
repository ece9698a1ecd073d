-- The last digit stands behind the others.
use Rattle.std.proofs.Common.{arith}
use Rattle.decimal.proofs.Texts.{length_step, length_one, appended_one, appended_next}
use Rattle.decimal.proofs.inner.Text.+put_decimal.Goals as goal

pub put_byte-requires : goal.put_byte-requires
put_byte-requires t c = omega (arith, length_one c.args.n c.if-n-lt10.true)

pub returns-then-n-lt10 : goal.returns-then-n-lt10
returns-then-n-lt10 t c = appended_one c.args.n c.if-n-lt10.true c.put_byte.ensures

pub put_decimal-requires : goal.put_decimal-requires
put_decimal-requires t c = (omega arith, omega (arith, length_step c.args.n c.if-n-lt10.false (omega arith)))

pub put_byte-requires-2 : goal.put_byte-requires-2
put_byte-requires-2 t c =
    omega (arith, length_step c.args.n c.if-n-lt10.false (omega arith), c.put_decimal.ensures.wrote.end, c.put_decimal.ensures.same_length)

pub returns : goal.returns
returns t c = appended_next c.args.n c.if-n-lt10.false (omega arith) c.put_decimal.ensures c.put_byte-2.ensures
