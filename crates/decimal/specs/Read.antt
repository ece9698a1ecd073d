-- Reading a decimal up to a limit, by the rule's numbers; and one step of it.
use Rattle.std.specs.Prelude.{ℕ, ◌+◌, ◌-◌, ◌*◌, ◌^◌, cond, not, ◌&&◌, List, [], ◌≡◌, leb, Option, None, Some}
use Rattle.rules.specs.Bytes.{same}
use Rattle.rules.specs.Session.{is_digit, all_digits, spelt, number}

-- one or more digits that spell a number of at most max (R148, R149)
unfoldable pub number_to : ℕ → List ℕ → Option ℕ
number_to max s = cond (not (same s []) && all_digits s && leb (spelt 0 s) max) (Some (spelt 0 s)) None

-- the rule's number of so many bits is the number up to the largest of so many bits (R149)
abbrev pub OfWidth : Type 0
OfWidth = (bits max : ℕ) → max + 1 ≡ 2 ^ bits → (s : List ℕ) → number_to max s ≡ number bits s

-- n with one more digit behind it (R148, R149)
unfoldable pub more : ℕ → ℕ → ℕ → Option ℕ
more max n b = cond (is_digit b && leb (n * 10 + (b - 48)) max) (Some (n * 10 + (b - 48))) None
