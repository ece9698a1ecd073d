-- A plain text: eight bytes or more, each of them 1 to 127.
use Rattle.std.specs.Prelude.{ℕ, Bool, not, ◌&&◌, ◌||◌, List, length, eqb, leb, ltb}
use Rattle.std.specs.List.{list_any}

-- a byte that a plain text has not: 0, or 128 and more
unfoldable pub not_plain : ℕ → Bool
not_plain b = eqb b 0 || ltb 127 b

-- eight bytes or more, and none of them is such a byte
unfoldable pub plain_long : List ℕ → Bool
plain_long s = leb 8 (length s) && not (list_any not_plain s)
