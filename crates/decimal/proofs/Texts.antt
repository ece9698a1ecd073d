-- Laws of decimal text, and of writers that follow each other. Assumes nothing.
use Prim.Native.Nat.{ℕ, zero, suc, ◌+◌, ◌/◌, ◌%◌, ◌^◌, ◌≤◌, ◌<◌}
use native.Mathlib.Omega.{arith}
use native.Mathlib.Nat.{div-lt_iff_lt-mul, pow-suc}
use mathlib.Core.Path.{◌≡◌, refl, sym, ap, ◌∙◌, subst}
use mathlib.Core.Bool.{Bool, true, false}
use mathlib.Core.List.{List, [], ◌∷◌, ◌++◌}
use lib.Dec.{ltb}
use lib.ListN.{length, length-append}
use borrow.Author.Tests.{lt-ltb, le-ltb, ltb-true, ltb-false}
use Rattle.rules.specs.Session.{digits, decimal}
use Rattle.le.specs.Mem.{write}
use Rattle.le.proofs.Lens.{write_append}
use Rattle.decimal.specs.declared.inner.Text.{Text}
use Rattle.decimal.specs.Wrote.{Wrote}
use Rattle.decimal.specs.Text.{Appended}

-- one digit at a time
pub small : (k n : ℕ) → n < 10 → digits (suc k) n ≡ (48 + n) ∷ []
unfolding digits
small k n h = simp (lt-ltb _ _ h)

pub large : (k n : ℕ) → 10 ≤ n → digits (suc k) n ≡ digits k (n / 10) ++ ((48 + n % 10) ∷ [])
unfolding digits
large k n h = simp (le-ltb _ _ h)

decimal_small : (n : ℕ) → n < 10 → decimal n ≡ (48 + n) ∷ []
unfolding decimal
decimal_small n h = small 19 n h

-- more room than a number needs changes nothing
enough : (k n : ℕ) → n < 10 ^ suc k → (t : Bool) → ltb n 10 ≡ t → digits (suc (suc k)) n ≡ digits (suc k) n
enough zero n h t e = small 1 n h ∙ sym (small 0 n h)
enough (suc k) n h true e = small (suc (suc k)) n (ltb-true n 10 e) ∙ sym (small (suc k) n (ltb-true n 10 e))
enough (suc k) n h false e =
    large (suc (suc k)) n (ltb-false n 10 e)
    ∙ ap (λ (l : List ℕ). l ++ ((48 + n % 10) ∷ [])) (enough k (n / 10) ((div-lt_iff_lt-mul (omega arith)).1 (rw pow-suc at h)) _ refl)
    ∙ sym (large (suc k) n (ltb-false n 10 e))

length_digits : (k n : ℕ) (t : Bool) → ltb n 10 ≡ t → length (digits k n) ≤ k
length_digits zero n t e = unfold digits in omega arith
length_digits (suc k) n true e = rw (small k n (ltb-true n 10 e)) (omega arith)
length_digits (suc k) n false e = rw (large k n (ltb-false n 10 e)) (simp length-append (omega (arith, length_digits k (n / 10) _ refl)))

pub length_decimal : (n : ℕ) → length (decimal n) ≤ 20
unfolding decimal
length_decimal n = length_digits 20 n _ refl

decimal_step : (n : ℕ) → 10 ≤ n → n < 10 ^ 20 → decimal n ≡ decimal (n / 10) ++ ((48 + n % 10) ∷ [])
unfolding decimal
decimal_step n h l =
    large 19 n h ∙ ap (λ (k : List ℕ). k ++ ((48 + n % 10) ∷ [])) (sym (enough 18 (n / 10) (omega arith) _ refl))

pub length_step : (n : ℕ) → 10 ≤ n → n < 10 ^ 20 → length (decimal n) ≡ length (decimal (n / 10)) + 1
length_step n h l = ap length (decimal_step n h l) ∙ simp length-append

-- a number below 1,000 has at most three digits
length_short : (n : ℕ) → n < 1000 → (t u : Bool) → ltb n 10 ≡ t → ltb (n / 10) 10 ≡ u → length (decimal n) ≤ 3
length_short n h true u e f = rw (decimal_small n (ltb-true n 10 e)) (omega arith)
length_short n h false true e f =
    omega (arith, length_step n (ltb-false n 10 e) (omega arith), ap length (decimal_small (n / 10) (ltb-true (n / 10) 10 f)))
length_short n h false false e f =
    omega (arith, length_step n (ltb-false n 10 e) (omega arith), length_step (n / 10) (ltb-false (n / 10) 10 f) (omega arith), ap length (decimal_small (n / 10 / 10) (omega arith)))

pub length_byte : (n : ℕ) → n < 256 → length (decimal n) ≤ 3
length_byte n h = length_short n (omega arith) _ _ refl refl

pub length_one : (n : ℕ) → n < 10 → 1 ≡ length (decimal n)
length_one n h = rw (decimal_small n h)

-- ---- texts, one behind the other

-- two writers, one behind the other, are one
pub wrote_more : {l m k : List ℕ} {at a b : ℕ} {xs ys : List ℕ} {r q : ℕ} → Wrote l at a xs r m → Wrote m r b ys q k → Wrote l at (a + b) (xs ++ ys) q k
wrote_more {l} {m} {k} {at} {a} {b} {xs} {ys} {r} {q} f g = record {
  end = omega (arith, length-append xs ys);
  within = omega arith;
  bytes = g.bytes ∙ ap (λ (i : ℕ). write m i ys) f.end ∙ ap (λ (n : List ℕ). write n (at + length xs) ys) f.bytes ∙ sym (write_append l at xs ys);
}

-- a wider bound holds too
pub wrote_wider : {l m : List ℕ} {at a b : ℕ} {xs : List ℕ} {r : ℕ} → a ≤ b → Wrote l at a xs r m → Wrote l at b xs r m
wrote_wider h f = record { end = f.end; within = omega arith; bytes = f.bytes }

-- ---- a writer, one text behind another

pub none_appended : (t : Text) → Appended t 0 [] t
none_appended t = record { same_slice = refl; same_length = refl; wrote = record { end = omega arith; within = omega arith; bytes = refl } }

pub appended_more : {l m k : Text} {a b : ℕ} {xs ys : List ℕ} → Appended l a xs m → Appended m b ys k → Appended l (a + b) (xs ++ ys) k
appended_more f g = record { same_slice = g.same_slice ∙ f.same_slice; same_length = g.same_length ∙ f.same_length; wrote = wrote_more f.wrote g.wrote }

-- the same text by another name, and a wider bound
pub appended_as : {l m : Text} {a b : ℕ} {xs ys : List ℕ} → a ≤ b → xs ≡ ys → Appended l a xs m → Appended l b ys m
appended_as {l} {m} {a} {b} h e f = record { same_slice = f.same_slice; same_length = f.same_length; wrote = subst (λ (xs : List ℕ). Wrote l.out.now l.at b xs m.at m.out.now) e (wrote_wider h f.wrote) }

-- a number: its one digit, or its last one behind the others
pub appended_one : {l m : Text} (n : ℕ) → n < 10 → Appended l 1 ((48 + n) ∷ []) m → Appended l (length (decimal n)) (decimal n) m
appended_one n h f = rw (decimal_small n h) f

pub appended_next : {l m k : Text} (n : ℕ) → 10 ≤ n → n < 10 ^ 20 → Appended l (length (decimal (n / 10))) (decimal (n / 10)) m → Appended m 1 ((48 + n % 10) ∷ []) k
    → Appended l (length (decimal n)) (decimal n) k
appended_next n h b f g = appended_as (omega (arith, length_step n h b)) (sym (decimal_step n h b)) (appended_more f g)
