-- The key of a name: the masks as shifts, and the bytes of a short name put together from the last one on. Assumes nothing.
use mathlib.Core.Path.{◌≡◌, sym, ap, ◌∙◌}
use mathlib.Core.List.{List}
use Prim.Native.Nat.{ℕ, ◌+◌, ◌-◌, ◌*◌, ◌/◌, ◌%◌, ◌^◌, ◌≤◌, ◌<◌, min}
use native.Mathlib.Nat.{pow-suc, pow-le-pow_right, zero-lt-suc}
use native.Mathlib.Numerals.{one-add}
use native.Mathlib.Omega.{arith}
use lib.ListN.{length}
use lib.Arith.{digits_div}
use lib.Pow.{ones_lt, ones_split}
use Rattle.le.specs.Mem.{read, value, get, Bytes}
use Rattle.le.proofs.Lens.{get_add, get_split}
use Rattle.rules.proofs.Fields.{get_fits}
use Rattle.scan.specs.Key.{ones, mask_of, word_of}

-- ones, shifted down, are fewer ones
ones_down : (j k : ℕ) → (2 ^ (j + k) - 1) / 2 ^ k ≡ 2 ^ j - 1
ones_down j k = ap (λ (x : ℕ). x / 2 ^ k) (ones_split j k) ∙ digits_div (2 ^ j - 1) (ones_lt k)

pub mask_down : (k : ℕ) → k ≤ 7 → ones 8 / 2 ^ (56 - 8 * k) ≡ ones (k + 1)
mask_down k h =
    let e : 8 * (k + 1) + (56 - 8 * k) ≡ 64 = omega arith in
    ap (λ (n : ℕ). (2 ^ n - 1) / 2 ^ (56 - 8 * k)) (sym e) ∙ ones_down (8 * (k + 1)) (56 - 8 * k)

-- ---- a short name

-- the number of the bytes from i on, and its limit
abbrev pub Spelt : List ℕ → ℕ → ℕ → Type 0
Spelt p v i = (i ≤ length p) × (v ≡ get (length p - i) p i) × (v < 256 ^ (length p - i))

pub none_spelt : (p : List ℕ) (i : ℕ) → i ≡ length p → Spelt p 0 i
unfolding get value read
none_spelt p i e =
    let z : length p - i ≡ 0 = omega arith in
    let one : 0 < 256 ^ 0 = omega arith in
    (omega arith, sym (ap (λ (n : ℕ). get n p i) z), rw z one)

module _ (p : List ℕ) (v i : ℕ) (s : Spelt p v i) where
  pub all_spelt : i ≤ 0 → v ≡ get (length p) p 0
  all_spelt h = let z : i ≡ 0 = omega arith in let y : length p - i ≡ length p = omega arith in s.1 ∙ ap (λ (n : ℕ). get n p i) y ∙ ap (get (length p) p) z

  pub fits_spelt : length p ≤ 7 → 0 < i → v < 2 ^ 48
  fits_spelt short h =
      let few : length p - i ≤ 6 = omega (arith, s.0) in
      let low : 256 ^ (length p - i) ≤ 256 ^ 6 = pow-le-pow_right (zero-lt-suc 255) few in
      omega (arith, s.2, low)

  pub one_spelt : (b : ℕ) → 0 < i → b < 256 → b ≡ get 1 p (i - 1) → Spelt p (v * 256 + b) (i - 1)
  one_spelt b h f e =
      let z : length p - (i - 1) ≡ 1 + (length p - i) = omega (arith, s.0) in
      let y : i - 1 + 1 ≡ i = omega arith in
      let step : get (length p - (i - 1)) p (i - 1) ≡ get 1 p (i - 1) + 256 * get (length p - i) p i =
      ap (λ (n : ℕ). get n p (i - 1)) z ∙ get_add 1 (length p - i) p (i - 1) ∙ ap (λ (n : ℕ). get 1 p (i - 1) + 256 * get (length p - i) p n) y in
      let x : 256 ^ (length p - (i - 1)) ≡ 256 ^ (length p - i) * 256 = ap (λ (n : ℕ). 256 ^ n) (z ∙ one-add (length p - i)) ∙ pow-suc 256 (length p - i) in
      (omega (arith, s.0), omega (arith, step, s.1, e), omega (arith, x, s.2))

-- ---- the key

module _ (p : List ℕ) where
  pub short_mask : (m : ℕ) → length p ≤ 7 → m ≡ ones (length p + 1) → m ≡ mask_of p
  unfolding mask_of
  short_mask m h e = let z : min (length p) 7 ≡ length p = omega arith in e ∙ rw z

  pub long_mask : (m : ℕ) → 8 ≤ length p → m ≡ ones 8 → m ≡ mask_of p
  unfolding mask_of
  long_mask m h e = let z : min (length p) 7 ≡ 7 = omega arith in e ∙ rw z

  pub short_fits : (v : ℕ) → length p ≤ 7 → v ≡ get (length p) p 0 → Bytes p → v < 2 ^ 56
  short_fits v h e b =
      let low : 256 ^ length p ≤ 256 ^ 7 = pow-le-pow_right (zero-lt-suc 255) h in
      omega (arith, e, get_fits (length p) p 0 b, low)

  pub short_key : (v : ℕ) → length p ≤ 7 → v ≡ get (length p) p 0 → length p % 256 + 256 * v ≡ word_of p
  unfolding word_of
  short_key v h e =
      let z : min (length p) 7 ≡ length p = omega arith in
      let y : length p - 7 ≡ 0 = omega arith in
      rw (z, y) (ap (λ (n : ℕ). length p % 256 + 256 * n) e)

  pub long_key : (v : ℕ) → 8 ≤ length p → v ≡ get 8 p (length p - 8) → Bytes p → length p % 256 + 256 * (v / 256) ≡ word_of p
  unfolding word_of
  long_key v h e b =
      let z : min (length p) 7 ≡ 7 = omega arith in
      let y : length p - 8 + 1 ≡ length p - 7 = omega arith in
      let d : v / 256 ≡ get 7 p (length p - 7) = ap (λ (n : ℕ). n / 256) e ∙ (get_split 1 7 p (length p - 8) b).1 ∙ ap (get 7 p) y in
      rw z (ap (λ (n : ℕ). length p % 256 + 256 * n) d)
