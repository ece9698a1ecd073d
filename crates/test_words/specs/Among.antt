-- The numbers among the words of a line, and the low bits of one.
use Rattle.std.specs.Prelude.{ℕ, ◌%◌, ◌^◌, List, [], ◌∷◌, Option, None, Some}
use Rattle.std.specs.Borrow.{Bor}
use Rattle.rules.specs.Session.{words, number}
use Rattle.rules.specs.Numbers.{before}

-- the words of what is left of a line, and none where nothing is left
abbrev pub words_left : Option (Bor (List ℕ)) → List (List ℕ)
words_left None = []
words_left (Some s) = words s.now

-- the words that are numbers of 64 bits, in their order
unfoldable pub numbers_of : List (List ℕ) → List ℕ
numbers_of [] = []
numbers_of (w ∷ ws) = before (number 64 w) (numbers_of ws)

-- the low bits of a number, so many
abbrev pub low_bits : ℕ → ℕ → ℕ
low_bits bits x = x % 2 ^ bits
