-- Well-formed UTF-8 without the scan: sequences one after another, each a row of table 3-7.
use Rattle.std.specs.Prelude.{ℕ, ◌≤◌, true, List, [], ◌∷◌, ◌++◌, ◌↔◌, ◌⊎◌, ◌≡◌}
use Rattle.rules.specs.Utf8.{Range, ◌‥◌, table, well_formed}

-- the byte lies in the range, both ends in it
abbrev pub In : Range → ℕ → Type 0
In (low ‥ high) b = (low ≤ b) × (b ≤ high)

-- as many bytes as ranges, each in its own (R35)
unfoldable pub Fills : List Range → List ℕ → Type 0
Fills [] [] = Unit {0}
Fills [] (b ∷ x) = ⊥
Fills (r ∷ rs) [] = ⊥
Fills (r ∷ rs) (b ∷ x) = In r b × Fills rs x

-- they fill one of these rows
unfoldable pub FillsOne : List (List Range) → List ℕ → Type 0
FillsOne [] x = ⊥
FillsOne (row ∷ rows) x = Fills row x ⊎ FillsOne rows x

-- sequences one after another, each filling a row of table 3-7, and nothing else (R35)
pub data Text : List ℕ → Type 0 where
  empty : Text []
  begins : (x s : List ℕ) → FillsOne table x → Text s → Text (x ++ s)

-- well-formed is exactly what can be cut into such sequences, whatever numbers stand in it (R35)
abbrev pub EveryText : Type 0
EveryText = (s : List ℕ) → (well_formed s ≡ true) ↔ Text s
