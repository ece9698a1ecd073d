-- The places of the records of saved bytes.
use Rattle.std.specs.Prelude.{ℕ, zero, suc, List, [], ◌∷◌}
use Rattle.rules.specs.Saved.{behind}

-- where each of the k records from a place on starts
unfoldable pub places_at : List ℕ → ℕ → ℕ → List ℕ
places_at b zero at = []
places_at b (suc k) at = at ∷ places_at b k (behind b at)
