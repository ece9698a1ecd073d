-- `test_expand::put_number` meets its contract. Assumes nothing.
use Rattle.std.proofs.Common.{refl, sym, arith}
use Rattle.std.proofs.lemmas.List.{length-take-le}
use Rattle.decimal.proofs.Texts.{length_decimal, wrote_wider}
use Rattle.test_expand.proofs.Expanding.{wrote_decimal}
use Rattle.test_expand.proofs.put_number.Goals as goal

pub slice_bounds-put_run-end-2 : goal.slice_bounds-put_run-end-2
slice_bounds-put_run-end-2 c = sym (length-take-le _ _ (omega (arith, length_decimal c.args.v)))

pub returns : goal.returns
returns c = wrote_decimal _ _ _ _ _ _ _ refl (wrote_wider (length_decimal c.args.v) c.put_decimal.ensures.wrote) c.put_run.ensures
