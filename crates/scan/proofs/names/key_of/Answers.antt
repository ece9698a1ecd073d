-- The last seven bytes of a long name stand in its last eight; a short name is spelt whole.
use native.Mathlib.Omega.{arith}
use Rattle.scan.proofs.Keys.{short_mask, long_mask, short_key, long_key, short_fits}
use borrow.Author.Rules.{rules}
use Rattle.scan.proofs.names.key_of.Goals as goal

pub returns-then-len-ge8 : goal.returns-then-len-ge8
returns-then-len-ge8 c =
    let name = c.args.name.now in
    (long_mask name _ (search rules) c.mask_of.ensures, long_key name _ (search rules) c.get_u64-last.ensures (λ i. (c.type_inv.name i).fits))

pub overflow_mul-result-2 : goal.overflow_mul-result-2
overflow_mul-result-2 c = let f = short_fits c.args.name.now _ (search rules) c.short_word.ensures (λ i. (c.type_inv.name i).fits) in omega (arith, f)

pub overflow_add-result-2 : goal.overflow_add-result-2
overflow_add-result-2 c = let f = short_fits c.args.name.now _ (search rules) c.short_word.ensures (λ i. (c.type_inv.name i).fits) in omega (arith, f)

pub returns : goal.returns
returns c =
    let name = c.args.name.now in
    (short_mask name _ (search rules) c.mask_of-2.ensures, short_key name _ (search rules) c.short_word.ensures)
