-- Records laid one behind the other, each into the unwritten rest of the lent bytes (R65, R66): what a call on the rest
-- gives, said of the whole. Assumes nothing.
use mathlib.Core.Path.{◌≡◌, refl, sym, ap, ◌∙◌}
use mathlib.Core.List.{List, [], ◌∷◌, ◌++◌}
use Prim.Native.Nat.{ℕ, ◌+◌, ◌-◌, ◌≤◌, ◌<◌}
use native.Mathlib.Nat.{add-zero, zero-add, sub-zero}
use native.Mathlib.Omega.{arith}
use lib.ListN.{length, take, drop, length-append, length-drop}
use lib.Seq.{length-take-le}
use borrow.Rule.Slice.PartMut.{put_mid, put_same}
use Rattle.rules.specs.Listing.{laid_records}
use Rattle.le.specs.Mem.{write}
use Rattle.le.proofs.Lens.{length-write, write_append}
use Rattle.le.proofs.Writes.{write_part}
use Rattle.dirent.specs.Lays.{Lays}
use Rattle.dirent.proofs.Records.{laid_in, laid_out_lem, was_laid, was_not}

-- the bytes from `at` to `end`, as they are lent; and the whole with these back as ys
abbrev pub rest : List ℕ → ℕ → ℕ → List ℕ
rest d at end = take (end - at) (drop at d)

abbrev pub back : List ℕ → ℕ → ℕ → List ℕ → List ℕ
back d at end ys = put_mid at (end - at) d ys

-- one record into the rest: n is answered, and the rest is back as ys
abbrev pub Wrote : List ℕ → ℕ → ℕ → List ℕ → ℕ → List ℕ → Type 0
Wrote d at end r n ys = Lays (rest d at end) (length (rest d at end)) (r ∷ []) n ys

-- `at` bytes of d are done, and the records rs are left: laying these into the rest gives what laying rs₀ into d₀ gives
pub record Going (d₀ : List ℕ) (end : ℕ) (rs₀ : List (List ℕ)) (d : List ℕ) (at : ℕ) (rs : List (List ℕ)) : Type 0 where
  pub within : at ≤ end
  pub fits : end ≤ length d
  pub long : length d ≡ length d₀
  pub count : at + length (laid_records (end - at) rs) ≡ length (laid_records end rs₀)
  pub bytes : write d at (laid_records (end - at) rs) ≡ write d₀ 0 (laid_records end rs₀)

pub going_start : (d : List ℕ) (end : ℕ) (rs : List (List ℕ)) → end ≤ length d → Going d end rs d 0 rs
going_start d end rs h = record { within = omega arith; fits = h; long = refl; count = rw (sub-zero, zero-add); bytes = rw sub-zero }

-- no record is left
pub going_done : (d₀ : List ℕ) (end : ℕ) (rs₀ : List (List ℕ)) (d : List ℕ) (at : ℕ) → Going d₀ end rs₀ d at [] → Lays d₀ end rs₀ at d
unfolding laid_records
going_done d₀ end rs₀ d at g = record { count = sym (add-zero at) ∙ g.count; bytes = g.bytes }

module _ (d₀ : List ℕ) (end : ℕ) (rs₀ : List (List ℕ)) (d : List ℕ) (at : ℕ) (r : List ℕ) (rs : List (List ℕ)) (n : ℕ) (ys : List ℕ)
    (g : Going d₀ end rs₀ d at (r ∷ rs)) (w : Wrote d at end r n ys) where
  rest_length : length (rest d at end) ≡ end - at
  rest_length = length-take-le (end - at) (drop at d) (omega (arith, length-drop at d, g.fits))

  -- the record is laid, and the next goes behind it
  pub went : (n ≡ 0 → ⊥) → Going d₀ end rs₀ (back d at end ys) (at + n) rs
  went z =
      let v = was_laid (rest d at end) (length (rest d at end)) r n ys w z in
      let q : length r ≤ end - at = omega (arith, rest_length, v.fits) in
      let now : back d at end ys ≡ write d at r =
      ap (back d at end) v.bytes ∙ write_part d at (end - at) r (omega (arith, g.within, g.fits)) v.fits in
      let left : end - at - length r ≡ end - (at + length r) = omega arith in
      let all : laid_records (end - at) (r ∷ rs) ≡ r ++ laid_records (end - (at + length r)) rs = laid_in (end - at) r rs q ∙ rw left in
      let l : length (write d at r) ≡ length d = length-write d at r in
      rw (now, v.count)
      (record {
        within = omega (arith, g.within);
        fits = omega (arith, g.fits);
        long = l ∙ g.long;
        count = omega (arith, g.count, ap length all, length-append r (laid_records (end - (at + length r)) rs));
        bytes = sym (write_append d at r (laid_records (end - (at + length r)) rs)) ∙ ap (write d at) (sym all) ∙ g.bytes;
      })

  -- the record does not fit, and ends the listing
  pub stopped : 0 < length r → n ≡ 0 → Lays d₀ end rs₀ at (back d at end ys)
  stopped some z =
      let v = was_not (rest d at end) (length (rest d at end)) r n ys w some z in
      let none : laid_records (end - at) (r ∷ rs) ≡ [] = laid_out_lem (end - at) r rs (omega (arith, rest_length, v.short)) in
      let now : back d at end ys ≡ d = ap (back d at end) v.bytes ∙ put_same at (end - at) d in
      record { count = omega (arith, g.count, ap length none); bytes = now ∙ ap (write d at) (sym none) ∙ g.bytes }
