-- What is written is read back. Assumes nothing.
use Prim.Native.Nat.{ℕ, zero, suc, ◌+◌, ◌-◌, ◌*◌, ◌/◌, ◌%◌, ◌^◌, ◌<◌}
use native.Mathlib.Omega.{arith}
use native.Mathlib.Nat.{div-lt_iff_lt-mul, pow-suc}
use mathlib.Core.Path.{◌≡◌, refl, sym, ap, ◌∙◌}
use mathlib.Core.Bool.{Bool, true, false, ◌&&◌, and_assoc}
use mathlib.Core.List.{List, [], ◌∷◌, ◌++◌}
use lib.Dec.{ltb}
use lib.ListN.{length, length-append}
use borrow.Author.Tests.{le-leb, ltb-true, ltb-false}
use Rattle.rules.specs.Session.{is_digit, all_digits, spelt, digits, decimal}
use Rattle.decimal.specs.RoundTrip.{ReadBack}
use Rattle.decimal.proofs.Steps.{read_from, from_start}
use Rattle.decimal.proofs.Texts.{small, large}

spelt_append : (xs ys : List ℕ) (n : ℕ) → spelt n (xs ++ ys) ≡ spelt (spelt n xs) ys
unfolding spelt
spelt_append [] ys n = refl
spelt_append (x ∷ xs) ys n = spelt_append xs ys (n * 10 + (x - 48))

digits_append : (xs ys : List ℕ) → all_digits (xs ++ ys) ≡ (all_digits xs && all_digits ys)
unfolding all_digits
digits_append [] ys = refl
digits_append (x ∷ xs) ys = ap (λ (t : Bool). is_digit x && t) (digits_append xs ys) ∙ sym (and_assoc (is_digit x) (all_digits xs) (all_digits ys))

one_digit : (n : ℕ) → n < 10 → all_digits ((48 + n) ∷ []) ≡ true
unfolding all_digits is_digit
one_digit n h = simp (le-leb 48 (48 + n) (omega arith), le-leb (48 + n) 57 (omega arith))

one_spelt : (m n : ℕ) → spelt m ((48 + n) ∷ []) ≡ m * 10 + n
unfolding spelt
one_spelt m n = omega arith

back : (k n : ℕ) → n < 10 ^ suc k → (t : Bool) → ltb n 10 ≡ t → (all_digits (digits (suc k) n) ≡ true) × (spelt 0 (digits (suc k) n) ≡ n) × (0 < length (digits (suc k) n))
back zero n h t e = rw (small 0 n h) (one_digit n h, one_spelt 0 n ∙ omega arith, omega arith)
back (suc k) n h true e =
    let l = ltb-true n 10 e in
    rw (small (suc k) n l) (one_digit n l, one_spelt 0 n ∙ omega arith, omega arith)
back (suc k) n h false e =
    let r = back k (n / 10) ((div-lt_iff_lt-mul (omega arith)).1 (rw pow-suc at h)) _ refl in
    rw (large (suc k) n (ltb-false n 10 e)) (
      digits_append (digits (suc k) (n / 10)) _ ∙ ap (λ (b : Bool). b && all_digits ((48 + n % 10) ∷ [])) r.0 ∙ one_digit (n % 10) (omega arith),
      spelt_append (digits (suc k) (n / 10)) _ 0 ∙ one_spelt _ (n % 10) ∙ omega (arith, r.1),
      omega (arith, r.2, length-append (digits (suc k) (n / 10)) ((48 + n % 10) ∷ [])),
    )

pub read_back : ReadBack
unfolding decimal read_from
read_back max n h l =
    let r = back 19 n l _ refl in
    from_start max (digits 20 n) (λ z. omega (arith, r.2)) ∙ simp (r.0, r.1, le-leb n max h)
