-- The components of a path within its limits and in UTF-8 are good names. Assumes nothing.
use mathlib.Core.Path.{◌≡◌, refl, sym, ap, ◌∙◌, subst}
use mathlib.Core.Bool.{Bool, true, false, cond, ◌&&◌, true≢false}
use mathlib.Core.List.{List, [], ◌∷◌}
use Prim.Native.Nat.{ℕ, zero, suc}
use native.Mathlib.Nat.{suc_inj}
use native.Mathlib.Omega.{arith}
use lib.ListN.{length}
use lib.Dec.{eqb}
use borrow.Author.Tests.{eqb-true, le-leb, eq-eqb, ne_eqb}
use Rattle.rules.specs.Bytes.{same, holds}
use Rattle.rules.specs.Utf8.{Range, table, within, fits, first_row, sequence, on_sequence, end_from, valid_to, well_formed}
use Rattle.rules.specs.Path.{slash, onto, parts_by, pieces, is_dot, is_dots, components}
use Rattle.rules.specs.Saved.{good_name}
use Rattle.rules.specs.claims.Names.{GoodName, ComponentsGood}
use Rattle.rules.proofs.Tests.{and_both, pass}
use Rattle.rules.proofs.Same.{some_byte}
use Rattle.rules.proofs.Parts.{EachPiece, Short, kept_names, within_limits}

-- ---- sequences do not reach over a slash

-- the bytes before the first slash
unfoldable cut : List ℕ → List ℕ
cut [] = []
cut (b ∷ s) = cond (eqb b slash) [] (b ∷ cut s)

-- the first k bytes have no slash
unfoldable NoSlash : ℕ → List ℕ → Type 0
NoSlash zero s = Unit {0}
NoSlash (suc k) [] = Unit {0}
NoSlash (suc k) (b ∷ s) = (eqb b slash ≡ false) × NoSlash k s

-- no range has the slash
unfoldable Apart : List Range → Type 0
Apart [] = Unit {0}
Apart (r ∷ rs) = (within r slash ≡ false) × Apart rs

-- what such ranges say of bytes, they say of the bytes before a slash
fits_cut : (rs : List Range) (s : List ℕ) → Apart rs → fits rs s ≡ fits rs (cut s)
unfolding fits cut Apart
fits_cut [] s h = refl
fits_cut (r ∷ rs) [] h = refl
fits_cut (r ∷ rs) (b ∷ s) h = go (eqb b slash) refl (fits_cut rs s h.1)
  where
    go : (t : Bool) → eqb b slash ≡ t → fits rs s ≡ fits rs (cut s) → (within r b && fits rs s) ≡ fits (r ∷ rs) (cond t [] (b ∷ cut s))
    go true e k = rw (ap (within r) (eqb-true b slash e) ∙ h.0)
    go false e k = ap (λ (x : Bool). within r b && x) k

fits_apart : (rs : List Range) (s : List ℕ) → Apart rs → fits rs s ≡ true → NoSlash (length rs) s
unfolding fits NoSlash Apart
fits_apart [] s h e = tt
fits_apart (r ∷ rs) [] h e = tt
fits_apart (r ∷ rs) (b ∷ s) h e = (
  ne_eqb b slash (λ t. true≢false (sym (and_both (within r b) (fits rs s) e).0 ∙ (ap (within r) t ∙ h.0))),
  fits_apart rs s h.1 (and_both (within r b) (fits rs s) e).1,
)

-- behind its first range, no row of the table has the slash
unfoldable Tails : List (List Range) → Type 0
Tails [] = Unit {0}
Tails ([] ∷ rows) = ⊥
Tails ((r ∷ rs) ∷ rows) = Apart rs × Tails rows

table_tails : Tails table
unfolding Tails Apart table
table_tails =
    (tt, ((refl, tt), ((refl, (refl, tt)), ((refl, (refl, tt)), ((refl, (refl, tt)), ((refl, (refl, tt)), ((refl, (refl, (refl, tt))), ((refl, (refl, (refl, tt))), ((refl, (refl, (refl, tt))), tt)))))))))

row_cut : (rows : List (List Range)) (b : ℕ) (s : List ℕ) → Tails rows → first_row rows (b ∷ s) ≡ first_row rows (b ∷ cut s)
unfolding Tails first_row fits
row_cut [] b s h = refl
row_cut ([] ∷ rows) b s h = absurd h
row_cut ((r ∷ rs) ∷ rows) b s h = rw (fits_cut rs s h.0, row_cut rows b s h.1)

row_apart : (rows : List (List Range)) (b : ℕ) (s : List ℕ) (m : ℕ) → Tails rows → first_row rows (b ∷ s) ≡ suc m → NoSlash m s
unfolding Tails first_row fits
row_apart [] b s m h e = absurd (omega arith)
row_apart ([] ∷ rows) b s m h e = absurd h
row_apart ((r ∷ rs) ∷ rows) b s m h e = go (within r b && fits rs s) refl e (row_apart rows b s m h.1)
  where
    go : (t : Bool) → (within r b && fits rs s) ≡ t → cond t (suc (length rs)) (first_row rows (b ∷ s)) ≡ suc m → (first_row rows (b ∷ s) ≡ suc m → NoSlash m s) → NoSlash m s
    go true f g k = subst (λ (n : ℕ). NoSlash n s) (suc_inj g) (fits_apart rs s h.0 (and_both (within r b) (fits rs s) f).1)
    go false f g k = k g

sequence_same : (b : ℕ) (s : List ℕ) → sequence (b ∷ s) ≡ sequence (b ∷ cut s)
unfolding sequence
sequence_same b s = row_cut table b s table_tails

sequence_apart : (b : ℕ) (s : List ℕ) (m : ℕ) → sequence (b ∷ s) ≡ suc m → NoSlash m s
unfolding sequence
sequence_apart b s m e = row_apart table b s m table_tails e

none_apart : (s : List ℕ) → NoSlash 0 s
unfolding NoSlash
none_apart s = tt

-- ---- the pieces of well-formed bytes are well-formed

abbrev Whole : ℕ → List ℕ → Type 0
Whole k s = end_from k s ≡ length s

-- the first piece stands k bytes inside a sequence; it is what stands before the first slash
unfoldable Cuts : ℕ → List ℕ → List (List ℕ) → Type 0
Cuts k s [] = ⊥
Cuts k s (p ∷ ps) = (p ≡ cut s) × Whole k p × EachPiece (Whole 0) ps

cuts_wholes : (s : List ℕ) (ps : List (List ℕ)) → Cuts 0 s ps → EachPiece (Whole 0) ps
unfolding Cuts EachPiece
cuts_wholes s [] h = absurd h
cuts_wholes s (p ∷ ps) h = (h.1, h.2)

cuts_onto : (b : ℕ) (s : List ℕ) (k m : ℕ) (ps : List (List ℕ)) → eqb b slash ≡ false → ((p : List ℕ) → p ≡ cut s → Whole m p → Whole k (b ∷ p)) → Cuts m s ps → Cuts k (b ∷ s) (onto b ps)
unfolding Cuts cut
cuts_onto b s k m [] e f h = absurd h
cuts_onto b s k m (p ∷ ps) e f h = (rw e (ap (λ (x : List ℕ). b ∷ x) h.0), f p h.0 h.1, h.2)

slash_alone : (s : List ℕ) → end_from 0 (slash ∷ s) ≡ suc (end_from 0 s)
unfolding end_from sequence first_row table fits
slash_alone s = refl

nil_cuts : (k : ℕ) → Cuts k [] ([] ∷ [])
unfolding Cuts EachPiece cut end_from
nil_cuts k = (refl, refl, tt)

at_slash : (b : ℕ) (s : List ℕ) (k : ℕ) → eqb b slash ≡ true → Whole k (b ∷ s) → NoSlash k (b ∷ s) → (Whole 0 s → Cuts 0 s (pieces s)) → Cuts k (b ∷ s) ([] ∷ pieces s)
unfolding Cuts NoSlash cut end_from
at_slash b s zero e w h f =
    let w₀ : Whole 0 s = suc_inj (sym (slash_alone s) ∙ (ap (λ (x : ℕ). end_from 0 (x ∷ s)) (sym (eqb-true b slash e)) ∙ w)) in
    (rw e, refl, cuts_wholes s (pieces s) (f w₀))
at_slash b s (suc k) e w h f = absurd (true≢false (sym e ∙ h.0))

past_byte : (b : ℕ) (s : List ℕ) (k : ℕ) → eqb b slash ≡ false → Whole k (b ∷ s) → NoSlash k (b ∷ s) → ((m : ℕ) → Whole m s → NoSlash m s → Cuts m s (pieces s))
    → Cuts k (b ∷ s) (onto b (pieces s))
unfolding NoSlash end_from
past_byte b s zero e w h f = begins (sequence (b ∷ s)) refl w
  where
    sequence_cut : (p : List ℕ) → p ≡ cut s → sequence (b ∷ p) ≡ sequence (b ∷ s)
    sequence_cut p i = ap (λ (x : List ℕ). sequence (b ∷ x)) i ∙ sym (sequence_same b s)

    begins : (n : ℕ) → sequence (b ∷ s) ≡ n → on_sequence n (λ (k : ℕ). end_from k s) ≡ suc (length s) → Cuts 0 (b ∷ s) (onto b (pieces s))
    begins zero q v = absurd (omega arith)
    begins (suc m) q v =
        cuts_onto b s 0 m (pieces s) e (λ p i x. rw (sequence_cut p i ∙ q) (ap suc x)) (f m (suc_inj v) (sequence_apart b s m q))
past_byte b s (suc k) e w h f = cuts_onto b s (suc k) k (pieces s) e (λ p i v. ap suc v) (f k (suc_inj w) h.1)

pieces_whole : (s : List ℕ) (k : ℕ) → Whole k s → NoSlash k s → Cuts k s (pieces s)
unfolding parts_by
pieces_whole [] k w h = nil_cuts k
pieces_whole (b ∷ s) k w h = go (eqb b slash) refl (pieces_whole s)
  where
    go : (t : Bool) → eqb b slash ≡ t → ((m : ℕ) → Whole m s → NoSlash m s → Cuts m s (pieces s)) → Cuts k (b ∷ s) (cond t ([] ∷ pieces s) (onto b (pieces s)))
    go true e f = at_slash b s k e w h (λ x. f 0 x (none_apart s))
    go false e f = past_byte b s k e w h f

-- ---- what every piece is

abbrev Free : List ℕ → Type 0
Free p = holds slash p ≡ false

pieces_free : (s : List ℕ) → EachPiece Free (pieces s)
unfolding EachPiece parts_by holds
pieces_free [] = (refl, tt)
pieces_free (b ∷ s) = go (eqb b slash) refl (pieces s) (pieces_free s)
  where
    go : (t : Bool) → eqb b slash ≡ t → (ps : List (List ℕ)) → EachPiece Free ps → EachPiece Free (cond t ([] ∷ ps) (onto b ps))
    go true e ps h = (refl, h)
    go false e [] h = (rw e, tt)
    go false e (p ∷ ps) h = (rw e h.0, h.1)

abbrev Sound : List ℕ → Type 0
Sound p = Free p × Short p × Whole 0 p

pieces_sound : (ps : List (List ℕ)) → EachPiece Free ps → EachPiece Short ps → EachPiece (Whole 0) ps → EachPiece Sound ps
unfolding EachPiece
pieces_sound [] f l w = tt
pieces_sound (p ∷ ps) f l w = ((f.0, l.0, w.0), pieces_sound ps f.1 l.1 w.1)

-- ---- components

good : (p : List ℕ) → same p [] ≡ false → is_dot p ≡ false → is_dots p ≡ false → Sound p → GoodName p
unfolding good_name well_formed valid_to
good p e d dd s =
    pass _ (le-leb 1 (length p) (some_byte p e), (le-leb (length p) 255 s.1, (rw s.0, (rw d, (rw dd, (eq-eqb _ _ s.2, tt))))))

-- the theorem: of a path that rows 1 and 2 of a mount let pass
pub components_good : ComponentsGood
unfolding well_formed valid_to components
components_good s l w =
    let whole = cuts_wholes s (pieces s) (pieces_whole s 0 (eqb-true _ _ w) (none_apart s)) in
    kept_names Sound GoodName good 0 (pieces s) (pieces_sound (pieces s) (pieces_free s) (within_limits s l).1 whole)
