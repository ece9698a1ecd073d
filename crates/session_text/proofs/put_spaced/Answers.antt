-- The numbers so far stand in the text, and one more behind them.
use Rattle.std.proofs.Common.{get_or, arith}
use Rattle.decimal.proofs.Texts.{length_decimal}
use Rattle.session_text.proofs.Writes.{wrote_none, wrote_spaced}
use Rattle.session_text.proofs.put_spaced.Goals as goal

pub loop-n-init : goal.loop-n-init
loop-n-init c = wrote_none _ c.args.numbers.now

pub loop-n-preserved : goal.loop-n-preserved
loop-n-preserved c = wrote_spaced _ _ (omega arith) _ _ _ _ c.loop-n.invariant c.put_byte.ensures c.put_decimal.ensures

pub put_decimal-requires : goal.put_decimal-requires
put_decimal-requires c = omega (arith, length_decimal (get_or c.args.numbers.now c.loop-n.n-index 0))
