-- No bytes, one number under a mask, or a run.
use mathlib.Core.Path.{◌≡◌}
use Prim.Native.Nat.{◌-◌, ◌≤◌, ◌<◌}
use lib.ListN.{length}
use native.Mathlib.Omega.{arith}
use Rattle.le.specs.Mem.{read, same}
use Rattle.tables.proofs.Alike.{by_number}
use borrow.Author.Rules.{rules}
use Rattle.tables.proofs.rows.same_start.Goals as goal

pub returns-then-len-lt8 : goal.returns-then-len-lt8
unfolding read same
returns-then-len-lt8 c = let z : length c.args.name.now - 7 ≡ 0 = omega arith in rw z

pub returns-then-len-lt16 : goal.returns-then-len-lt16
returns-then-len-lt16 c =
    let more : 8 ≤ length c.args.name.now = search rules in
    let less : length c.args.name.now < 16 = search rules in
    by_number _ _ _ _ _ (λ j. (c.type_inv.s j).fits) (λ j. (c.type_inv.name j).fits) (omega arith) _ _ _ _
    c.get_u64.ensures c.get_u64-then-len-lt16.ensures c.mask_of-mask.ensures (omega arith)
