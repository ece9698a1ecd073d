-- Reading a number digit by digit: `read_from` goes by `more`, one digit at a time; and the rule's widths. Assumes nothing.
use Prim.Native.Nat.{ℕ, ◌+◌, ◌-◌, ◌*◌, ◌^◌, ◌≤◌, ◌<◌}
use native.Mathlib.Omega.{arith}
use mathlib.Core.Path.{◌≡◌, refl, sym, ◌∙◌}
use mathlib.Core.Bool.{Bool, true, false, cond, ◌&&◌, and-false}
use mathlib.Core.List.{List, [], ◌∷◌}
use Rattle.std.specs.Prelude.{Option, None, Some}
use Rattle.std.proofs.lemmas.Option.{none-some}
use lib.Dec.{leb, ltb}
use lib.ListN.{length}
use borrow.Author.Tests.{le-leb, lt-leb, leb-true, leb-false, lt-ltb, le-ltb}
use Rattle.rules.specs.Bytes.{same}
use Rattle.rules.proofs.Tests.{and_both}
use Rattle.rules.specs.Session.{is_digit, all_digits, spelt, number}
use Rattle.decimal.specs.Read.{number_to, OfWidth, more}

-- reading goes on behind n
unfoldable pub read_from : ℕ → ℕ → List ℕ → Option ℕ
read_from max n s = cond (all_digits s && leb (spelt n s) max) (Some (spelt n s)) None

-- what is spelt later only grows
spelt_le : (s : List ℕ) (n : ℕ) → n ≤ spelt n s
unfolding spelt
spelt_le [] n = omega arith
spelt_le (b ∷ s) n = omega (arith, spelt_le s (n * 10 + (b - 48)))

pub from_nil : (max n : ℕ) → n ≤ max → read_from max n [] ≡ Some n
unfolding read_from all_digits spelt
from_nil max n h = simp (le-leb _ _ h)

pub from_none : (max : ℕ) (s : List ℕ) → length s ≡ 0 → number_to max s ≡ None
unfolding number_to same
from_none max [] h = refl
from_none max (b ∷ s) h = absurd (let z : ⊥ = omega arith in z)

pub from_start : (max : ℕ) (s : List ℕ) → (length s ≡ 0 → ⊥) → number_to max s ≡ read_from max 0 s
unfolding read_from number_to same
from_start max [] h = absurd (h refl)
from_start max (b ∷ s) h = refl

-- a value under a test says that the test passed, and which value it is
pub some_by : (t : Bool) (n v : ℕ) → cond t (Some n) None ≡ Some v → (t ≡ true) × (n ≡ v)
some_by true n v e = (refl, cc)
some_by false n v e = absurd (none-some v e)

-- the next digit
pub next_value : (max n b v : ℕ) (s : List ℕ) → more max n b ≡ Some v → (v ≤ max) × (read_from max n (b ∷ s) ≡ read_from max v s)
unfolding more read_from all_digits spelt
next_value max n b v s e =
    let found = some_by (is_digit b && leb (n * 10 + (b - 48)) max) (n * 10 + (b - 48)) v e in
    let same : n * 10 + (b - 48) ≡ v = found.1 in
    let both = and_both (is_digit b) (leb (n * 10 + (b - 48)) max) found.0 in
    let hd : is_digit b ≡ true = both.0 in
    (omega (arith, leb-true (n * 10 + (b - 48)) max both.1), simp (hd, same))

stop : (max n b : ℕ) (s : List ℕ) (d t : Bool) → is_digit b ≡ d → leb (n * 10 + (b - 48)) max ≡ t
    → ◌≡◌ {A = Option ℕ} (cond (d && t) (Some (n * 10 + (b - 48))) None) None → read_from max n (b ∷ s) ≡ None
unfolding read_from all_digits spelt
stop max n b s true true hd ht e = absurd (none-some _ (sym e))
stop max n b s true false hd ht e = simp (hd, lt-leb _ _ (let y : max < spelt (n * 10 + (b - 48)) s = omega (arith, leb-false (n * 10 + (b - 48)) max ht, spelt_le s (n * 10 + (b - 48))) in y), and-false)
stop max n b s false t hd ht e = simp hd

pub next_bad : (max n b : ℕ) (s : List ℕ) → more max n b ≡ None → read_from max n (b ∷ s) ≡ None
unfolding more
next_bad max n b s e = stop max n b s _ _ refl refl e

-- ---- widths

up_to : (max top n : ℕ) → max + 1 ≡ top → (t : Bool) → leb n max ≡ t → leb n max ≡ ltb n top
up_to max top n e true h = h ∙ sym (lt-ltb _ _ (let y : n < top = omega (arith, leb-true n max h) in y))
up_to max top n e false h = h ∙ sym (le-ltb _ _ (let y : top ≤ n = omega (arith, leb-false n max h) in y))

pub of_width : OfWidth
unfolding number_to number
of_width bits max e s = rw (up_to max (2 ^ bits) (spelt 0 s) e _ refl)

-- ---- answers

-- two answers of a reading of which the same is said are equal
pub value_in_injective : (x r q : Option ℕ) → r ≡ x → q ≡ x → r ≡ q
value_in_injective x r q a b = a ∙ sym b
