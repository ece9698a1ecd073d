-- Laws of table 3-7: of which row a first byte is, and where the well-formed part of a byte string ends. Assumes nothing.
use mathlib.Core.Path.{◌≡◌, refl, sym, ap, ◌∙◌}
use mathlib.Core.Bool.{Bool, true, false, cond, ◌&&◌, and-true, and-false, false≢true, and-eq-true_iff}
use mathlib.Core.List.{List, [], ◌∷◌, ◌++◌}
use Prim.Native.Nat.{ℕ, zero, suc, ◌+◌, ◌-◌, ◌≤◌, ◌<◌, zero-le, suc-le-suc}
use native.Mathlib.Nat.{zero-add, suc-add, lt_irrefl, lt_of_lt_of_le, le_of_suc-le-suc, not-suc-le-zero}
use native.Mathlib.Omega.{arith}
use lib.ListN.{length, get_or, drop, drop_of_length-le, length-drop, replicate, length-replicate}
use lib.Seq.{drop-drop}
use lib.Dec.{leb, eqb, eqb-suc-zero}
use borrow.Author.Tests.{le-leb, lt-leb}
use Rattle.std.specs.Prelude.{Some, None}
use Rattle.std.specs.Bool.{then_some}
use Rattle.std.specs.List.{list_all, range_with_len}
use Rattle.std.proofs.lemmas.Option.{none-some, same_Some}
use Rattle.utf8.specs.Sequence.{sequence_in}
use Rattle.rules.specs.Utf8.{Range, ◌‥◌, table, within, fits, first_row, sequence, end_from, valid_to}
use Rattle.path.proofs.Places.{here}

-- ---- one byte in a range, and runs of ranges

pub fits_out : (r : Range) (rs : List Range) (s : List ℕ) (at : ℕ) → length s ≤ at → fits (r ∷ rs) (drop at s) ≡ false
unfolding fits
fits_out r rs s at h = rw (drop_of_length-le s h)

pub fits_one : (low high : ℕ) (s : List ℕ) (at : ℕ) → at < length s → fits (low ‥ high ∷ []) (drop at s) ≡ (leb low (get_or s at 0) && leb (get_or s at 0) high)
unfolding fits
fits_one low high s at h = rw (here s at h, and-true)

fits_append : (xs ys : List Range) (s : List ℕ) → fits (xs ++ ys) s ≡ (fits xs s && fits ys (drop (length xs) s))
unfolding fits
fits_append [] ys s = refl
fits_append (x ∷ xs) ys [] = refl
fits_append (x ∷ xs) ys (b ∷ s) = go (within x b) (fits xs s) (fits ys (drop (length xs) s)) (fits_append xs ys s)
  where
    go : (w : Bool) {p : Bool} (q r : Bool) → p ≡ (q && r) → (w && p) ≡ (w && q && r)
    go true q r e = e
    go false q r e = refl

fits_both : (xs ys : List Range) (s : List ℕ) (at : ℕ) → fits (xs ++ ys) (drop at s) ≡ (fits xs (drop at s) && fits ys (drop (at + length xs) s))
fits_both xs ys s at = rw (fits_append xs ys (drop at s), drop-drop (length xs) at s)

-- the same range n times, asked one place after the other from at + a on
pub fits_all : (r : Range) (s : List ℕ) (at n a : ℕ) → list_all (λ k. fits (r ∷ []) (drop (at + k) s)) (range_with_len a n) ≡ fits (replicate n r) (drop (at + a) s)
unfolding fits
fits_all r s at zero a = refl
fits_all r s at (suc n) a =
    let z : at + (a + 1) ≡ at + a + 1 = omega arith in
    sym (fits_both (r ∷ []) (replicate n r) s (at + a) ∙ ap (λ t. fits (r ∷ []) (drop (at + a) s) && t) (sym (fits_all r s at n (a + 1) ∙ ap (λ k. fits (replicate n r) (drop k s)) z)))

-- one range, and then n times another
module _ (q r : Range) (s : List ℕ) (at n : ℕ) where
  pub tails_yes : (t : Bool) → fits (q ∷ []) (drop at s) ≡ true → t ≡ fits (replicate n r) (drop (at + 1) s) → t ≡ fits (q ∷ replicate n r) (drop at s)
  tails_yes t e h = h ∙ sym (fits_both (q ∷ []) (replicate n r) s at ∙ rw e)

  pub tails_no : fits (q ∷ []) (drop at s) ≡ false → false ≡ fits (q ∷ replicate n r) (drop at s)
  tails_no e = sym (fits_both (q ∷ []) (replicate n r) s at ∙ rw e)

-- ---- no sequence is longer than the bytes

fits_long : (rs : List Range) (s : List ℕ) → fits rs s ≡ true → length rs ≤ length s
unfolding fits
fits_long [] s e = zero-le
fits_long (r ∷ rs) [] e = absurd (false≢true e)
fits_long (r ∷ rs) (b ∷ s) e = suc-le-suc (fits_long rs s ((and-eq-true_iff (within r b) (fits rs s)).0 e).1)

-- where fewer bytes are left than ranges, they don't fit
pub tails_short : (q r : Range) (s : List ℕ) (at n : ℕ) → length s - at < n + 1 → fits (q ∷ replicate n r) (drop at s) ≡ false
tails_short q r s at n h = go (fits (q ∷ replicate n r) (drop at s)) refl
  where
    go : (t : Bool) → fits (q ∷ replicate n r) (drop at s) ≡ t → t ≡ false
    go true e = absurd (omega (arith, fits_long (q ∷ replicate n r) (drop at s) e, length-drop at s, length-replicate n r))
    go false e = refl

first_row_le : (rows : List (List Range)) (s : List ℕ) → first_row rows s ≤ length s
unfolding first_row
first_row_le [] s = zero-le
first_row_le (row ∷ rows) s = go (fits row s) refl (first_row_le rows s)
  where
    go : (t : Bool) → fits row s ≡ t → first_row rows s ≤ length s → cond t (length row) (first_row rows s) ≤ length s
    go true e h = fits_long row s e
    go false e h = h

sequence_le : (s : List ℕ) → sequence s ≤ length s
unfolding sequence
sequence_le s = first_row_le table s

-- ---- of which row a first byte is: the ranges before that row's end below it, and those after begin above it

abbrev pub Above : List (List Range) → ℕ → Type 0
Above [] b = Unit {0}
Above ([] ∷ rows) b = ⊥
Above ((low ‥ high ∷ rs) ∷ rows) b = (b < low) × Above rows b

abbrev pub Row : ℕ → List (List Range) → ℕ → Type 0
Row n [] b = ⊥
Row n ([] ∷ rows) b = ⊥
Row zero ((low ‥ high ∷ rs) ∷ rows) b = (low ≤ b) × ((b ≤ high) × Above rows b)
Row (suc n) ((low ‥ high ∷ rs) ∷ rows) b = (high < b) × Row n rows b

-- between two rows
abbrev pub Gap : ℕ → List (List Range) → ℕ → Type 0
Gap zero rows b = Above rows b
Gap (suc n) [] b = ⊥
Gap (suc n) ([] ∷ rows) b = ⊥
Gap (suc n) ((low ‥ high ∷ rs) ∷ rows) b = (high < b) × Gap n rows b

-- the ranges after the first of the n-th row
abbrev pub tails : ℕ → List (List Range) → List Range
tails n [] = []
tails n ([] ∷ rows) = []
tails zero ((r ∷ rs) ∷ rows) = rs
tails (suc n) ((r ∷ rs) ∷ rows) = tails n rows

above : (rows : List (List Range)) (b : ℕ) (s : List ℕ) → Above rows b → first_row rows (b ∷ s) ≡ 0
unfolding first_row fits
above [] b s h = refl
above ([] ∷ rows) b s h = absurd h
above ((low ‥ high ∷ rs) ∷ rows) b s h = rw (lt-leb low b h.0) (above rows b s h.1)

past : (low high b : ℕ) → high < b → within (low ‥ high) b ≡ false
past low high b h = rw (lt-leb b high h, and-false)

row_of : (n : ℕ) (rows : List (List Range)) (b : ℕ) (s : List ℕ) → Row n rows b → first_row rows (b ∷ s) ≡ cond (fits (tails n rows) s) (suc (length (tails n rows))) 0
unfolding first_row fits
row_of zero [] b s h = absurd h
row_of (suc n) [] b s h = absurd h
row_of zero ([] ∷ rows) b s h = absurd h
row_of (suc n) ([] ∷ rows) b s h = absurd h
row_of zero ((low ‥ high ∷ rs) ∷ rows) b s h = rw (le-leb low b h.0, le-leb b high h.1.0, above rows b s h.1.1)
row_of (suc n) ((low ‥ high ∷ rs) ∷ rows) b s h = rw (past low high b h.0) (row_of n rows b s h.1)

gap_of : (n : ℕ) (rows : List (List Range)) (b : ℕ) (s : List ℕ) → Gap n rows b → first_row rows (b ∷ s) ≡ 0
unfolding first_row fits
gap_of zero rows b s h = above rows b s h
gap_of (suc n) [] b s h = absurd h
gap_of (suc n) ([] ∷ rows) b s h = absurd h
gap_of (suc n) ((low ‥ high ∷ rs) ∷ rows) b s h = rw (past low high b h.0) (gap_of n rows b s h.1)

module _ (s : List ℕ) (at : ℕ) (inside : at < length s) (n : ℕ) where
  pub sequence_row : Row n table (get_or s at 0) → sequence (drop at s) ≡ cond (fits (tails n table) (drop (at + 1) s)) (suc (length (tails n table))) 0
  unfolding sequence
  sequence_row h = rw (here s at inside) (row_of n table (get_or s at 0) (drop (at + 1) s) h)

  pub row_some : Row n table (get_or s at 0) → then_some (fits (tails n table) (drop (at + 1) s)) (suc (length (tails n table))) ≡ sequence_in (drop at s)
  unfolding sequence_in
  row_some h = rw (sequence_row h) (go (fits (tails n table) (drop (at + 1) s)) (length (tails n table)))
    where
      go : (t : Bool) (m : ℕ) → then_some t (suc m) ≡ cond (eqb (cond t (suc m) 0) 0) None (Some (cond t (suc m) 0))
      go true m = rw (eqb-suc-zero m)
      go false m = refl

  pub gap_none : Gap n table (get_or s at 0) → None ≡ sequence_in (drop at s)
  unfolding sequence sequence_in
  gap_none h = rw (here s at inside, gap_of n table (get_or s at 0) (drop (at + 1) s) h)

pub end_none : (s : List ℕ) (at : ℕ) → length s ≤ at → None ≡ sequence_in (drop at s)
unfolding sequence_in
end_none s at h = let z : sequence (drop at s) ≡ 0 = omega (arith, sequence_le (drop at s), length-drop at s) in rw z

-- ---- where the well-formed part ends

passes : (k : ℕ) (s : List ℕ) → k ≤ length s → end_from k s ≡ k + end_from 0 (drop k s)
unfolding end_from
passes zero s h = rw zero-add
passes (suc k) [] h = absurd (not-suc-le-zero h)
passes (suc k) (b ∷ s) h = rw (passes k s (le_of_suc-le-suc h), suc-add)

steps : (s : List ℕ) (n : ℕ) → sequence s ≡ n → 0 < n → valid_to s ≡ n + valid_to (drop n s)
unfolding valid_to end_from
steps [] n e h = absurd (lt_irrefl 0 (lt_of_lt_of_le h (rw e at (sequence_le []))))
steps (b ∷ s) zero e h = absurd (lt_irrefl 0 h)
steps (b ∷ s) (suc k) e h = rw (e, passes k s (le_of_suc-le-suc (rw e at (sequence_le (b ∷ s)))), suc-add)

module _ (s : List ℕ) (i : ℕ) where
  pub valid_done : length s ≤ i → valid_to (drop i s) ≡ 0
  unfolding valid_to end_from
  valid_done h = rw (drop_of_length-le s h)

  pub valid_next : (n : ℕ) → sequence (drop i s) ≡ n → 0 < n → valid_to (drop i s) ≡ n + valid_to (drop (i + n) s)
  valid_next n e h = rw (← drop-drop n i s) (steps (drop i s) n e h)

  -- a sequence that is found is passed
  pub some_next : (n : ℕ) → i ≤ length s → Some n ≡ sequence_in (drop i s) → (0 < n) × (i + n ≤ length s) × (valid_to (drop i s) ≡ n + valid_to (drop (i + n) s))
  unfolding sequence_in
  some_next n l e = go (sequence (drop i s)) refl e
    where
      go : (m : ℕ) → sequence (drop i s) ≡ m → Some n ≡ cond (eqb m 0) None (Some m) → (0 < n) × (i + n ≤ length s) × (valid_to (drop i s) ≡ n + valid_to (drop (i + n) s))
      go zero q t = absurd (none-some n (sym t))
      go (suc m) q t =
          let z : n ≡ suc m = same_Some n (suc m) (rw (eqb-suc-zero m) at t) in
          let p : 0 < n = omega arith in
          (p, omega (arith, q, z, l, sequence_le (drop i s), length-drop i s), valid_next n (q ∙ sym z) p)

-- where none is, it ends
pub none_ends : (s : List ℕ) → None ≡ sequence_in s → valid_to s ≡ 0
unfolding valid_to end_from sequence_in
none_ends [] e = refl
none_ends (b ∷ s) e = rw (go (sequence (b ∷ s)) e)
  where
    go : (m : ℕ) → None ≡ cond (eqb m 0) None (Some m) → m ≡ 0
    go zero t = refl
    go (suc m) t = absurd (none-some (suc m) (rw (eqb-suc-zero m) at t))
