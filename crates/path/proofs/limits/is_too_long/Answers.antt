-- `path::limits::is_too_long` meets its contract. The invariant: a part from here on is too long where one of all is. Assumes nothing.
use mathlib.Core.Path.{refl, sym, ◌∙◌}
use Prim.Native.Nat.{◌≤◌}
use native.Mathlib.Omega.{arith}
use lib.ListN.{length}
use Rattle.rules.specs.Path.{slash}
use Rattle.path.proofs.Words.{long_path, short_path, longer_end, longer_yes, longer_no, end_in}
use Rattle.path.proofs.limits.is_too_long.Goals as goal

pub returns-then-path-gt-MAX_PATH : goal.returns-then-path-gt-MAX_PATH
returns-then-path-gt-MAX_PATH c = long_path _ c.if-path-gt-MAX_PATH.true

pub loop-i-init : goal.loop-i-init
loop-i-init c = (omega arith, refl)

pub overflow_sub-end : goal.overflow_sub-end
overflow_sub-end c = omega (arith, (let it : (c.loop-i.i ≤ c.part_end-end.result) × (c.part_end-end.result ≤ length (c.args.path.now)) = end_in slash (c.args.path.now) c.loop-i.i c.part_end-end.ensures (omega arith) in it))

pub returns-then-end-i-gt-MAX_NAME : goal.returns-then-end-i-gt-MAX_NAME
returns-then-end-i-gt-MAX_NAME c =
    let s = c.args.path.now in
    sym (short_path s c.if-path-gt-MAX_PATH.false ∙ sym c.loop-i.invariant.1 ∙ longer_yes 255 s c.loop-i.i (omega (arith, c.part_end-end.ensures)))

pub overflow_add-i : goal.overflow_add-i
overflow_add-i c = omega (arith, (let it : (c.loop-i.i ≤ c.part_end-end.result) × (c.part_end-end.result ≤ length (c.args.path.now)) = end_in slash (c.args.path.now) c.loop-i.i c.part_end-end.ensures (omega arith) in it))

pub loop-i-smaller : goal.loop-i-smaller
loop-i-smaller c = omega (arith, (let it : (c.loop-i.i ≤ c.part_end-end.result) × (c.part_end-end.result ≤ length (c.args.path.now)) = end_in slash (c.args.path.now) c.loop-i.i c.part_end-end.ensures (omega arith) in it))

pub loop-i-preserved : goal.loop-i-preserved
loop-i-preserved c =
    let s = c.args.path.now in
    let i = c.loop-i.i in
    let e = c.part_end-end.ensures in
    (omega (arith, (let it : (c.loop-i.i ≤ c.part_end-end.result) × (c.part_end-end.result ≤ length (c.args.path.now)) = end_in slash (c.args.path.now) c.loop-i.i c.part_end-end.ensures (omega arith) in it)), rw e (sym (longer_no 255 s i (omega (arith, e))) ∙ c.loop-i.invariant.1))

pub returns : goal.returns
returns c =
    let s = c.args.path.now in
    sym (short_path s c.if-path-gt-MAX_PATH.false ∙ sym c.loop-i.invariant.1 ∙ longer_end 255 s c.loop-i.i c.loop-i-test.false)
