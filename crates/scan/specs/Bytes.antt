-- What a test of bytes answers.
use Rattle.std.specs.Prelude.{◌≡◌, ℕ, Bool}

-- the answers of a closure are those of f
abbrev pub Says : (ℕ → Bool → Type 0) → (ℕ → Bool) → Type 0
Says post f = (b : ℕ) (r : Bool) → post b r → r ≡ f b
