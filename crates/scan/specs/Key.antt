-- The cell of a name: its length in one byte, then its last seven bytes or all of them; and the bytes of the cell that count.
use Rattle.std.specs.Prelude.{ℕ, ◌+◌, ◌-◌, ◌*◌, ◌%◌, ◌^◌, min, List, length}
use Rattle.le.specs.Mem.{get}

-- how many of its bytes stand in the cell
abbrev pub kept_in_cell : List ℕ → ℕ
kept_in_cell p = min (length p) 7

-- the ones of k bytes
abbrev pub ones : ℕ → ℕ
ones k = 2 ^ (8 * k) - 1

-- the mask of the cell of a name: the length byte and the bytes kept
unfoldable pub mask_of : List ℕ → ℕ
mask_of p = ones (kept_in_cell p + 1)

-- the cell of a name under that mask, as a number: the length in the lowest byte, then the bytes kept (R45)
unfoldable pub word_of : List ℕ → ℕ
word_of p = length p % 256 + 256 * get (kept_in_cell p) p (length p - 7)
