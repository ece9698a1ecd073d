-- What a listing answers and leaves, by the rule on the instance that the bytes stand for.
use Rattle.std.specs.Prelude.{ℕ, List, length, Result}
use Rattle.rules.specs.declared.codes.VfsError.{VfsError}
use Rattle.rules.specs.Instance.{Instance}
use Rattle.rules.specs.Outcome.{wrote, Outcome}
use Rattle.rules.specs.Listing.{list_rule}
use Rattle.call_form.specs.Form.{Told, told_of, Writes}

-- the number of each answer and its values (R15, R16)
abbrev pub listed_told : Result ℕ VfsError → Told
listed_told = told_of wrote

-- the rule for a request on the lent output d (R63 to R66)
abbrev pub listing : ℕ → ℕ → ℕ → List ℕ → Instance → Outcome
listing node size offset d i = list_rule i (record { node = node; size = size; offset = offset; buffer = length d })

-- r is answered, and the lent output d is e then (R17, R65)
abbrev pub Lists : List ℕ → ℕ → ℕ → ℕ → List ℕ → Result ℕ VfsError → List ℕ → Type 0
Lists mem node size offset d r e = Writes mem (listing node size offset d) d (listed_told r) e
