-- What the library's operations on a part of a slice do, said by `read`, `write` and `same`. Assumes nothing.
use mathlib.Core.Path.{◌≡◌, refl, sym, ap, ◌∙◌}
use mathlib.Core.Bool.{◌&&◌}
use mathlib.Core.List.{List, [], ◌∷◌, ◌++◌, append_assoc}
use Prim.Native.Nat.{ℕ, ◌+◌, ◌-◌, ◌≤◌}
use native.Mathlib.Omega.{arith}
use lib.Dec.{eqb}
use lib.ListN.{length, drop, take}
use borrow.Rule.Slice.PartMut.{put_mid}
use lib.Seq.{drop-drop}
use Rattle.std.specs.Cmp.Lexicographic.{pointwise}
use Rattle.std.specs.List.{between, copy_within}
use Rattle.std.proofs.lemmas.List.Edits.{sets-eq}
use Rattle.rules.proofs.Fields.{length_read, read_slice}
use Rattle.le.specs.Mem.{read, write, same}

-- a part of a slice is a run
pub part_run : (mem : List ℕ) (at k : ℕ) → at + k ≤ length mem → between at (at + k) mem ≡ read mem at k
part_run mem at k h = let z : at + k - at ≡ k = omega arith in rw z (sym (read_slice mem at k h))

-- `==` of two slices
pub equal_same : (a b : List ℕ) → pointwise eqb a b ≡ same a b
unfolding same
equal_same [] [] = refl
equal_same [] (y ∷ ys) = refl
equal_same (x ∷ xs) [] = refl
equal_same (x ∷ xs) (y ∷ ys) = ap (λ t. eqb x y && t) (equal_same xs ys)

-- k bytes written over a part, which then holds d
pub part_written : (mem d bs : List ℕ) (at k : ℕ) → at + k ≤ length mem → length bs ≡ k → d ≡ bs → put_mid at (at + k - at) mem d ≡ write mem at bs
part_written mem d bs at k h l e =
    let z : at + k - at ≡ length bs = omega arith in
    rw (e, z, drop-drop (length bs) at mem) (sym (sets-eq bs mem at (omega arith) ∙ append_assoc (take at mem) bs (drop (at + length bs) mem)))

-- a part moved
pub part_moved : (mem : List ℕ) (to from k : ℕ) → to + k ≤ length mem → from + k ≤ length mem → copy_within mem from (from + k) to ≡ write mem to (read mem from k)
part_moved mem to from k h l =
    let z : from + k - from ≡ k = omega arith in
    let n = length_read mem from k in
    rw (z, sets-eq (read mem from k) mem to (omega arith), n) (ap (λ bs. take to mem ++ bs ++ drop (to + k) mem) (sym (read_slice mem from k l)))
