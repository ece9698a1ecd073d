-- Cells of eight bytes in a row, read under a mask, and the first place where a test holds.
use Rattle.std.specs.Prelude.{ℕ, zero, suc, ◌+◌, ◌*◌, Bool, false, ◌||◌, List, Option, eqb}
use Rattle.std.specs.List.{find, range_with_len}
use Rattle.std.specs.Int.Bits.{bit_and}
use Rattle.le.specs.Mem.{get}

-- whether cell i of the row at a place is x, of the bits of the mask alone
unfoldable pub cell_is : List ℕ → ℕ → ℕ → ℕ → ℕ → Bool
cell_is mem at mask x i = eqb (bit_and (get 8 mem (at + 8 * i)) mask) x

-- whether the test holds at one of the k places from i on
unfoldable pub any_of : (ℕ → Bool) → ℕ → ℕ → Bool
any_of f i zero = false
any_of f i (suc k) = any_of f i k || f (i + k)

-- the first of the k places from i on where the test holds
unfoldable pub first_place : (ℕ → Bool) → ℕ → ℕ → Option ℕ
first_place f i k = find f (range_with_len i k)
