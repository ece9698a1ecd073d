-- UTF-8 by table 3-7 of the Unicode standard: the well-formed byte sequences, and where the well-formed part of a byte string ends.
use Rattle.std.specs.Prelude.{ℕ, zero, suc, Bool, true, false, cond, ◌&&◌, List, [], ◌∷◌, length, leb, eqb}

infix 75 ◌‥◌
-- a range of byte values, both ends in it
pub data Range : Type 0 where
  ◌‥◌ : ℕ → ℕ → Range

-- the rows of table 3-7: the ranges of the first, second, third and fourth byte (R35)
unfoldable pub table : List (List Range)
table =
    (0x00 ‥ 0x7F ∷ [])
    ∷ (0xC2 ‥ 0xDF ∷ 0x80 ‥ 0xBF ∷ [])
    ∷ (0xE0 ‥ 0xE0 ∷ 0xA0 ‥ 0xBF ∷ 0x80 ‥ 0xBF ∷ [])
    ∷ (0xE1 ‥ 0xEC ∷ 0x80 ‥ 0xBF ∷ 0x80 ‥ 0xBF ∷ [])
    ∷ (0xED ‥ 0xED ∷ 0x80 ‥ 0x9F ∷ 0x80 ‥ 0xBF ∷ [])
    ∷ (0xEE ‥ 0xEF ∷ 0x80 ‥ 0xBF ∷ 0x80 ‥ 0xBF ∷ [])
    ∷ (0xF0 ‥ 0xF0 ∷ 0x90 ‥ 0xBF ∷ 0x80 ‥ 0xBF ∷ 0x80 ‥ 0xBF ∷ [])
    ∷ (0xF1 ‥ 0xF3 ∷ 0x80 ‥ 0xBF ∷ 0x80 ‥ 0xBF ∷ 0x80 ‥ 0xBF ∷ [])
    ∷ (0xF4 ‥ 0xF4 ∷ 0x80 ‥ 0x8F ∷ 0x80 ‥ 0xBF ∷ 0x80 ‥ 0xBF ∷ [])
    ∷ []

-- the byte lies in the range
abbrev pub within : Range → ℕ → Bool
within (low ‥ high) b = leb low b && leb b high

-- the bytes begin with one byte in each range
unfoldable pub fits : List Range → List ℕ → Bool
fits [] s = true
fits (r ∷ rs) [] = false
fits (r ∷ rs) (b ∷ s) = within r b && fits rs s

-- the length of the first of these rows that the bytes begin with; 0 where they begin with none
unfoldable pub first_row : List (List Range) → List ℕ → ℕ
first_row [] s = 0
first_row (row ∷ rows) s = cond (fits row s) (length row) (first_row rows s)

-- the length of the well-formed sequence that the bytes begin with; 0 where they begin with none (R35)
unfoldable pub sequence : List ℕ → ℕ
sequence s = first_row table s

-- a sequence of that length is passed byte by byte; 0 ends the well-formed part
abbrev pub on_sequence : ℕ → (ℕ → ℕ) → ℕ
on_sequence zero rest = zero
on_sequence (suc k) rest = suc (rest k)

-- the bytes are passed one by one; `inside` of them still belong to a sequence that was found
unfoldable pub end_from : ℕ → List ℕ → ℕ
end_from inside [] = zero
end_from (suc k) (b ∷ s) = suc (end_from k s)
end_from zero (b ∷ s) = on_sequence (sequence (b ∷ s)) (λ (k : ℕ). end_from k s)

-- where well-formed UTF-8 ends (R35)
unfoldable pub valid_to : List ℕ → ℕ
valid_to s = end_from 0 s

-- the whole of it is well-formed (R35, R36)
unfoldable pub well_formed : List ℕ → Bool
well_formed s = eqb (valid_to s) (length s)
