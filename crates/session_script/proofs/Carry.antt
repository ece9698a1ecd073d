-- The carry keeps its length; which arguments a feed accepts, and that it accepts what a byte leaves. Assumes nothing.
use Prim.Native.Nat.{ℕ, ◌+◌, ◌≤◌, ◌<◌}
use native.Mathlib.Omega.{arith}
use mathlib.Core.Path.{◌≡◌, refl, sym, ◌∙◌}
use mathlib.Core.Bool.{Bool, true, false, cond, true≢false}
use mathlib.Core.List.{List}
use lib.ListN.{length, set, length-set}
use lib.Dec.{eqb, leb, ltb}
use borrow.Author.Tests.{leb-true, ltb-true, le-leb, lt-leb}
use Rattle.session_script.specs.Step.{byte_carry, byte_kept}
use Rattle.session_script.specs.Feed.{accepts}

length_by : (t u : Bool) (carry : List ℕ) (kept b : ℕ) → length (cond t carry (cond u (set carry kept b) carry)) ≡ length carry
length_by true u carry kept b = refl
length_by false true carry kept b = length-set carry kept b
length_by false false carry kept b = refl

pub length_carry : (carry : List ℕ) (kept b : ℕ) → length (byte_carry carry kept b) ≡ length carry
unfolding byte_carry
length_carry carry kept b = length_by (eqb b 10) (ltb kept 8192) carry kept b

kept_by : (t u : Bool) (kept : ℕ) → ltb kept 8192 ≡ u → cond t 0 (cond u (kept + 1) 8193) ≤ 8193
kept_by true u kept e = omega arith
kept_by false true kept e = omega (arith, ltb-true kept 8192 e)
kept_by false false kept e = omega arith

pub kept_most : (kept b : ℕ) → byte_kept kept b ≤ 8193
unfolding byte_kept
kept_most kept b = kept_by (eqb b 10) _ kept refl

module _ (carry : List ℕ) (kept : ℕ) where
  pub accepts_true : 8192 ≤ length carry → kept ≤ 8193 → accepts carry kept ≡ true
  unfolding accepts
  accepts_true h k = rw (le-leb 8192 (length carry) h, le-leb kept 8193 k)

  pub accepts_short : length carry < 8192 → accepts carry kept ≡ false
  unfolding accepts
  accepts_short h = rw (lt-leb 8192 (length carry) h)

  pub accepts_many : 8192 ≤ length carry → 8193 < kept → accepts carry kept ≡ false
  unfolding accepts
  accepts_many h k = rw (le-leb 8192 (length carry) h, lt-leb kept 8193 k)

  wide_by : (t : Bool) → leb 8192 (length carry) ≡ t → accepts carry kept ≡ true → 8192 ≤ length carry
  unfolding accepts
  wide_by true e a = leb-true 8192 (length carry) e
  wide_by false e a = absurd (true≢false (sym a ∙ rw e))

  pub accepts_wide : accepts carry kept ≡ true → 8192 ≤ length carry
  accepts_wide a = wide_by _ refl a

pub accepts_byte : (carry : List ℕ) (kept b : ℕ) → accepts carry kept ≡ true → accepts (byte_carry carry kept b) (byte_kept kept b) ≡ true
accepts_byte carry kept b a =
    let w : 8192 ≤ length (byte_carry carry kept b) = omega (arith, length_carry carry kept b, accepts_wide carry kept a) in
    accepts_true (byte_carry carry kept b) (byte_kept kept b) w (kept_most kept b)
