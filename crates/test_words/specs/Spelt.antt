-- Bytes spelt by pairs of hex digits, alone or behind a percent sign.
use Rattle.std.specs.Prelude.{ℕ, ◌+◌, ◌-◌, ◌*◌, cond, ◌&&◌, List, [], ◌∷◌, eqb, leb, Option, Some, None, option_map, option_and_then, unwrap_or}
use Rattle.rules.specs.Session.{is_digit}

-- the value of a digit, in lower case
unfoldable pub hex_digit : ℕ → Option ℕ
hex_digit b = cond (is_digit b) (Some (b - 48)) (cond (leb 97 b && leb b 102) (Some (b - 87)) None)

-- the byte that two digits spell
unfoldable pub hex_pair : ℕ → ℕ → Option ℕ
hex_pair a b = option_and_then (λ x. option_map (λ y. x * 16 + y) (hex_digit b)) (hex_digit a)

-- the bytes that the pairs of digits at the front spell
unfoldable pub hex_bytes : List ℕ → List ℕ
hex_bytes [] = []
hex_bytes (a ∷ []) = []
hex_bytes (a ∷ b ∷ s) = unwrap_or (option_map (λ p. p ∷ hex_bytes s) (hex_pair a b)) []

-- the byte that a percent sign and two digits at the front spell
unfoldable pub percent_front : List ℕ → Option ℕ
percent_front [] = None
percent_front (a ∷ []) = None
percent_front (a ∷ b ∷ []) = None
percent_front (a ∷ b ∷ c ∷ s) = cond (eqb a 37) (hex_pair b c) None

-- the bytes, with each percent sign and the two digits behind it replaced by the byte that they spell
unfoldable pub percent_bytes : List ℕ → List ℕ
percent_bytes [] = []
percent_bytes (a ∷ []) = a ∷ []
percent_bytes (a ∷ b ∷ []) = a ∷ b ∷ []
percent_bytes (a ∷ b ∷ c ∷ s) = unwrap_or (option_map (λ p. p ∷ percent_bytes s) (percent_front (a ∷ b ∷ c ∷ s))) (a ∷ percent_bytes (b ∷ c ∷ s))
