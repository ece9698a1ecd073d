-- Parts joined by a byte between two of them, and split again: one law for the pieces of a path and the fields of a line.
use Rattle.std.specs.Prelude.{ℕ, Bool, true, not, ◌&&◌, List, [], ◌∷◌, ◌≡◌}
use Rattle.rules.specs.Bytes.{holds}
use Rattle.rules.specs.Path.{parts_by, joined_by}

-- the byte stands in none of the parts
unfoldable pub in_none : ℕ → List (List ℕ) → Bool
in_none sep [] = true
in_none sep (p ∷ ps) = not (holds sep p) && in_none sep ps

-- for every byte: parts without it, of which there is one, are split of what they are joined to; what is split has it in none of its parts, and is what
-- these are joined to (R37, R146, R152)
pub record EveryJoined : Type 0 where
  pub split : (sep : ℕ) (p : List ℕ) (ps : List (List ℕ)) → in_none sep (p ∷ ps) ≡ true → parts_by sep (joined_by sep (p ∷ ps)) ≡ p ∷ ps
  pub free : (sep : ℕ) (s : List ℕ) → in_none sep (parts_by sep s) ≡ true
  pub back : (sep : ℕ) (s : List ℕ) → joined_by sep (parts_by sep s) ≡ s
