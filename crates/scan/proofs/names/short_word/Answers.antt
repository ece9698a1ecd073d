-- After the bytes from i on, the number that they spell.
use mathlib.Core.Path.{refl}
use native.Mathlib.Omega.{arith}
use Rattle.scan.proofs.Keys.{none_spelt, all_spelt, fits_spelt, one_spelt}
use borrow.Author.Rules.{rules}
use Rattle.scan.proofs.names.short_word.Goals as goal

pub loop-i-init : goal.loop-i-init
loop-i-init c = none_spelt c.args.name.now _ refl

pub overflow_mul-v : goal.overflow_mul-v
overflow_mul-v c = let f = fits_spelt c.args.name.now _ _ c.loop-i.invariant (search rules) (search rules) in omega (arith, f)

pub overflow_add-v : goal.overflow_add-v
overflow_add-v c =
    let f = fits_spelt c.args.name.now _ _ c.loop-i.invariant (search rules) (search rules) in
    omega (arith, f)

pub loop-i-preserved : goal.loop-i-preserved
loop-i-preserved c = one_spelt c.args.name.now _ _ c.loop-i.invariant _ (search rules) (search rules) c.get_u8.ensures

pub returns : goal.returns
returns c = all_spelt c.args.name.now _ _ c.loop-i.invariant (search rules)
