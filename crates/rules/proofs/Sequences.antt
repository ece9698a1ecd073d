-- The scan of UTF-8 passes exactly what can be cut into rows of table 3-7. Assumes nothing.
use mathlib.Core.Path.{◌≡◌, refl, ap, subst}
use mathlib.Core.Bool.{Bool, true, false, cond, false≢true, and-false}
use mathlib.Core.List.{List, [], ◌∷◌, ◌++◌}
use mathlib.Core.Logic.{◌⊎◌, inl, inr}
use Prim.Native.Nat.{ℕ, zero, suc, ◌+◌, ◌≤◌}
use native.Mathlib.Nat.{suc_inj}
use native.Mathlib.Omega.{arith}
use lib.ListN.{length, take, drop, take-append-drop}
use lib.Dec.{leb}
use borrow.Author.Tests.{leb-true, le-leb, lt-leb, eqb-true, eq-eqb}
use Rattle.rules.specs.Utf8.{Range, ◌‥◌, table, within, fits, first_row, sequence, on_sequence, end_from, valid_to, well_formed}
use Rattle.rules.specs.claims.Sequences.{In, Fills, FillsOne, Text, empty, begins, EveryText}
use Rattle.rules.proofs.Tests.{and_both}

-- ---- one byte, and one row

in_range : (r : Range) (b : ℕ) → within r b ≡ true → In r b
in_range (low ‥ high) b e =
    let t = and_both (leb low b) (leb b high) e in
    (leb-true low b t.0, leb-true b high t.1)

is_within : (r : Range) (b : ℕ) → In r b → within r b ≡ true
is_within (low ‥ high) b i = rw (le-leb low b i.0, le-leb b high i.1)

fits_fills : (row : List Range) (s : List ℕ) → fits row s ≡ true → Fills row (take (length row) s)
unfolding fits Fills
fits_fills [] s e = tt
fits_fills (r ∷ rs) [] e = absurd (false≢true e)
fits_fills (r ∷ rs) (b ∷ s) e =
    let t = and_both (within r b) (fits rs s) e in
    (in_range r b t.0, fits_fills rs s t.1)

fills_fits : (row : List Range) (x s : List ℕ) → Fills row x → (fits row (x ++ s) ≡ true) × (length row ≡ length x)
unfolding fits Fills
fills_fits [] [] s f = (refl, refl)
fills_fits [] (b ∷ x) s f = absurd f
fills_fits (r ∷ rs) [] s f = absurd f
fills_fits (r ∷ rs) (b ∷ x) s f =
    let t = fills_fits rs x s f.1 in
    (rw (is_within r b f.0) t.0, ap suc t.1)

-- ---- the first row that fits

row_fills : (rows : List (List Range)) (s : List ℕ) (m : ℕ) → first_row rows s ≡ suc m → FillsOne rows (take (suc m) s)
unfolding first_row FillsOne
row_fills [] s m e = absurd (omega arith)
row_fills (row ∷ rows) s m e = go (fits row s) refl e (row_fills rows s m)
  where
    go : (t : Bool) → fits row s ≡ t → cond t (length row) (first_row rows s) ≡ suc m → (first_row rows s ≡ suc m → FillsOne rows (take (suc m) s))
        → Fills row (take (suc m) s) ⊎ FillsOne rows (take (suc m) s)
    go true f g k = inl (subst (λ (n : ℕ). Fills row (take n s)) g (fits_fills row s f))
    go false f g k = inr (k g)

-- each row's first byte is above those of the rows before it, from low on
unfoldable Rising : ℕ → List (List Range) → Type 0
Rising low [] = Unit {0}
Rising low ([] ∷ rows) = ⊥
Rising low ((least ‥ most ∷ rs) ∷ rows) = (low ≤ least) × (least ≤ most) × Rising (most + 1) rows

table_rises : Rising 0 table
unfolding Rising table
table_rises = omega arith

-- so no other row fits
fills_row : (rows : List (List Range)) (low b : ℕ) (x s : List ℕ) → Rising low rows → FillsOne rows (b ∷ x) → (low ≤ b) × (first_row rows (b ∷ (x ++ s)) ≡ suc (length x))
unfolding Rising FillsOne Fills first_row fits
fills_row [] low b x s r f = absurd f
fills_row ([] ∷ rows) low b x s r f = absurd r
fills_row ((least ‥ most ∷ rs) ∷ rows) low b x s r (inl f) =
    let t = fills_fits rs x s f.1 in
    (omega (arith, r.0, f.0.0), rw (is_within (least ‥ most) b f.0, t.0) (ap suc t.1))
fills_row ((least ‥ most ∷ rs) ∷ rows) low b x s r (inr f) =
    let t = fills_row rows (most + 1) b x s r.2 f in
    (omega (arith, r.0, r.1, t.0), rw (lt-leb b most (omega (arith, t.0)), and-false) t.1)

fills_some : (rows : List (List Range)) (low : ℕ) → Rising low rows → FillsOne rows [] → ⊥
unfolding Rising FillsOne Fills
fills_some [] low r f = f
fills_some ([] ∷ rows) low r f = r
fills_some ((least ‥ most ∷ rs) ∷ rows) low r (inl f) = f
fills_some ((least ‥ most ∷ rs) ∷ rows) low r (inr f) = fills_some rows (most + 1) r.2 f

-- ---- from the scan to the sequences

-- behind the bytes that still belong to a sequence
text_from : (s : List ℕ) (k : ℕ) → end_from k s ≡ length s → Text (drop k s)
unfolding end_from sequence
text_from [] zero e = empty
text_from [] (suc k) e = empty
text_from (b ∷ s) (suc k) e = text_from s k (suc_inj e)
text_from (b ∷ s) zero e = go (sequence (b ∷ s)) refl e (text_from s)
  where
    go : (n : ℕ) → sequence (b ∷ s) ≡ n → on_sequence n (λ (k : ℕ). end_from k s) ≡ suc (length s) → ((k : ℕ) → end_from k s ≡ length s → Text (drop k s)) → Text (b ∷ s)
    go zero q f t = absurd (omega arith)
    go (suc m) q f t =
        subst (λ (x : List ℕ). Text (b ∷ x)) (take-append-drop m s) (begins (b ∷ take m s) (drop m s) (row_fills table (b ∷ s) m q) (t m (suc_inj f)))

-- ---- from the sequences to the scan

end_behind : (x s : List ℕ) → end_from 0 s ≡ length s → end_from (length x) (x ++ s) ≡ length (x ++ s)
unfolding end_from
end_behind [] s e = e
end_behind (b ∷ x) s e = ap suc (end_behind x s e)

begin_scan : (x s : List ℕ) → FillsOne table x → end_from 0 s ≡ length s → end_from 0 (x ++ s) ≡ length (x ++ s)
unfolding end_from sequence
begin_scan [] s f e = absurd (fills_some table 0 table_rises f)
begin_scan (b ∷ x) s f e = rw (fills_row table 0 b x s table_rises f).1 (ap suc (end_behind x s e))

scan_text : (s : List ℕ) → Text s → end_from 0 s ≡ length s
unfolding end_from
scan_text _ empty = refl
scan_text _ (begins x s f t) = begin_scan x s f (scan_text s t)

-- the theorem
pub every_text : EveryText
unfolding well_formed valid_to
every_text s = (λ e. text_from s 0 (eqb-true _ _ e), λ t. eq-eqb _ _ (scan_text s t))
