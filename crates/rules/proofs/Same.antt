-- Equality of byte strings as a test: what it means, and strings of known lengths. Assumes nothing.
use mathlib.Core.Path.{◌≡◌, refl, sym, ap, ◌∙◌}
use mathlib.Core.Bool.{Bool, true, false, ◌&&◌, true≢false, false≢true, and_assoc, and-false}
use mathlib.Core.List.{List, [], ◌∷◌, ◌++◌}
use Prim.Native.Nat.{ℕ, ◌<◌}
use native.Mathlib.Nat.{suc_inj}
use native.Mathlib.Omega.{arith}
use lib.ListN.{length}
use lib.Dec.{eqb}
use borrow.Author.Tests.{eqb-true, eqb-false, eq-eqb, ne_eqb}
use lib.Pointwise.{pointwise}
use Rattle.rules.specs.Bytes.{same}
use Rattle.rules.proofs.Tests.{and_both}

pub same_refl : (p : List ℕ) → same p p ≡ true
unfolding same
same_refl [] = refl
same_refl (x ∷ p) = rw (eq-eqb x x refl, same_refl p)

pub same_eq : (p q : List ℕ) → same p q ≡ true → p ≡ q
unfolding same
same_eq [] [] e = refl
same_eq [] (y ∷ q) e = absurd (false≢true e)
same_eq (x ∷ p) [] e = absurd (false≢true e)
same_eq (x ∷ p) (y ∷ q) e =
    let b = and_both (eqb x y) (same p q) e in
    rw (eqb-true x y b.0, same_eq p q b.1)

-- two that differ
pub ne_same : (p q : List ℕ) → (p ≡ q → ⊥) → same p q ≡ false
ne_same p q h = go (same p q) refl
  where
    go : (t : Bool) → same p q ≡ t → t ≡ false
    go true e = absurd (h (same_eq p q e))
    go false e = refl

pub same_false : (p q : List ℕ) → same p q ≡ false → p ≡ q → ⊥
same_false p q e h = true≢false (sym (same_refl q) ∙ (ap (λ (x : List ℕ). same x q) (sym h) ∙ e))

-- ---- either way round

pub eqb_sym : (a b : ℕ) → eqb a b ≡ eqb b a
eqb_sym a b = go (eqb a b) refl
  where
    go : (t : Bool) → eqb a b ≡ t → t ≡ eqb b a
    go true e = sym (eq-eqb b a (sym (eqb-true a b e)))
    go false e = sym (ne_eqb b a (λ q. eqb-false a b e (sym q)))

pub same_sym : (p q : List ℕ) → same p q ≡ same q p
unfolding same
same_sym [] [] = refl
same_sym [] (y ∷ q) = refl
same_sym (x ∷ p) [] = refl
same_sym (x ∷ p) (y ∷ q) = rw (eqb_sym x y, same_sym p q)

-- ---- by lengths

-- a string that is not empty has a byte
pub some_byte : (p : List ℕ) → same p [] ≡ false → 0 < length p
unfolding same
some_byte [] e = absurd (true≢false e)
some_byte (x ∷ p) e = omega arith

-- two strings of different lengths differ
pub same_length : (p q : List ℕ) → (length p ≡ length q → ⊥) → same p q ≡ false
unfolding same
same_length [] [] h = absurd (h refl)
same_length [] (y ∷ q) h = refl
same_length (x ∷ p) [] h = refl
same_length (x ∷ p) (y ∷ q) h = rw (same_length p q (λ e. h (omega arith)), and-false)

-- two of two parts each, where the first parts have one length
pub same_append : (a b c d : List ℕ) → length a ≡ length c → same (a ++ b) (c ++ d) ≡ (same a c && same b d)
unfolding same
same_append [] b [] d e = refl
same_append [] b (y ∷ c) d e = absurd (omega arith)
same_append (x ∷ a) b [] d e = absurd (omega arith)
same_append (x ∷ a) b (y ∷ c) d e = ap (λ (t : Bool). eqb x y && t) (same_append a b c d (suc_inj e)) ∙ sym (and_assoc (eqb x y) (same a c) (same b d))

-- the program's `==` of byte strings tells the same
pub same_eq_of_slices : (p q : List ℕ) → pointwise eqb p q ≡ same p q
unfolding same
same_eq_of_slices [] [] = refl
same_eq_of_slices [] (y ∷ q) = refl
same_eq_of_slices (x ∷ p) [] = refl
same_eq_of_slices (x ∷ p) (y ∷ q) = ap (λ (t : Bool). eqb x y && t) (same_eq_of_slices p q)
