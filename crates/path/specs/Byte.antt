-- The test of one byte of a string.
use Rattle.std.specs.Prelude.{ℕ, Bool, List, get_or, eqb}

-- byte i is b
unfoldable pub is_byte : ℕ → List ℕ → ℕ → Bool
is_byte b s i = eqb (get_or s i 0) b
