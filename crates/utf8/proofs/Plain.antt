-- A plain text is well formed, has no byte 0, and is no dots. Assumes nothing.
use mathlib.Core.Path.{◌≡◌, refl, ap, ◌∙◌}
use mathlib.Core.Bool.{true, false, not}
use mathlib.Core.List.{List, [], ◌∷◌}
use Prim.Native.Nat.{ℕ, zero, suc, ◌+◌, ◌≤◌, ◌<◌}
use native.Mathlib.Nat.{zero-add}
use native.Mathlib.Numerals.{one-add}
use native.Mathlib.Omega.{arith}
use borrow.Author.Tests.{eq-eqb, ltb-false, leb-true, not-true}
use lib.ListN.{length, get_or, drop}
use lib.Dec.{eqb, leb, ltb}
use Rattle.std.specs.List.{list_any}
use Rattle.rules.specs.Bytes.{holds}
use Rattle.rules.specs.Path.{dot, is_dot, is_dots}
use Rattle.rules.specs.Utf8.{table, fits, sequence, valid_to, well_formed}
use Rattle.rules.proofs.Tests.{and_both, or_neither}
use Rattle.rules.proofs.Same.{same_length}
use Rattle.path.proofs.Places.{here}
use Rattle.utf8.specs.Plain.{not_plain, plain_long}
use Rattle.utf8.proofs.Table.{sequence_row, valid_next, valid_done}

-- ---- a plain text is well formed

one_byte : (s : List ℕ) (i : ℕ) → i < length s → get_or s i 0 ≤ 127 → sequence (drop i s) ≡ 1
unfolding table fits
one_byte s i h l = sequence_row s i h 0 (omega arith)

plain_from : (s : List ℕ) (k i : ℕ) → i + k ≡ length s → list_any not_plain (drop i s) ≡ false → valid_to (drop i s) ≡ k
unfolding not_plain
plain_from s zero i e f = valid_done s i (omega arith)
plain_from s (suc k) i e f =
    let n = or_neither _ _ (rw (here s i (omega arith)) at f) in
    let m = or_neither (eqb (get_or s i 0) 0) (ltb 127 (get_or s i 0)) n.0 in
    valid_next s i 1 (one_byte s i (omega arith) (ltb-false 127 (get_or s i 0) m.1)) (omega arith)
    ∙ ap (λ (m : ℕ). 1 + m) (plain_from s k (i + 1) (omega arith) n.1) ∙ one-add k

-- the two tests of it
parts : (s : List ℕ) → plain_long s ≡ true → (8 ≤ length s) × (list_any not_plain s ≡ false)
unfolding plain_long
parts s e =
    let n = and_both (leb 8 (length s)) (not (list_any not_plain s)) e in
    (leb-true 8 (length s) n.0, not-true (list_any not_plain s) n.1)

pub plain_formed : (s : List ℕ) → plain_long s ≡ true → well_formed s ≡ true
unfolding well_formed
plain_formed s e = eq-eqb (valid_to s) (length s) (plain_from s (length s) 0 (zero-add (length s)) (parts s e).1)

-- it has no byte 0, and is no dots

no_zero : (s : List ℕ) → list_any not_plain s ≡ false → holds 0 s ≡ false
unfolding holds not_plain
no_zero [] e = refl
no_zero (x ∷ s) e =
    let n = or_neither _ _ e in
    let m = or_neither (eqb x 0) (ltb 127 x) n.0 in
    rw (m.0, no_zero s n.1)

module _ (s : List ℕ) (e : plain_long s ≡ true) where
  pub plain_no_zero : holds 0 s ≡ false
  plain_no_zero = no_zero s (parts s e).1

  pub plain_no_dot : is_dot s ≡ false
  plain_no_dot = same_length s (dot ∷ []) (λ q. omega (arith, (parts s e).0, q))

  pub plain_no_dots : is_dots s ≡ false
  plain_no_dots = same_length s (dot ∷ dot ∷ []) (λ q. omega (arith, (parts s e).0, q))
