-- Little-endian fields: numbers as bytes, the lowest first, and rows of them. Reading is total: past the end every byte is 0.
use Rattle.std.specs.Prelude.{ℕ, zero, suc, ◌+◌, ◌*◌, ◌/◌, ◌%◌, List, [], ◌∷◌, ◌++◌, get_or, take}

-- the k bytes from a place on
unfoldable pub read : List ℕ → ℕ → ℕ → List ℕ
read b at zero = []
read b at (suc k) = get_or b at 0 ∷ read b (at + 1) k

-- the number that bytes spell, the lowest byte first (R167)
unfoldable pub value : List ℕ → ℕ
value [] = 0
value (b ∷ bs) = b + 256 * value bs

-- a number in k bytes, the lowest byte first (R167)
unfoldable pub bytes_of : ℕ → ℕ → List ℕ
bytes_of zero v = []
bytes_of (suc k) v = v % 256 ∷ bytes_of k (v / 256)

-- the number of k bytes at a place
unfoldable pub get : ℕ → List ℕ → ℕ → ℕ
get k b at = value (read b at k)

-- a row of fields, written: the widths and the values (R64, R120, R121, R123)
unfoldable pub fields : List ℕ → List ℕ → List ℕ
fields [] vs = []
fields (w ∷ ws) [] = []
fields (w ∷ ws) (v ∷ vs) = bytes_of w v ++ fields ws vs

-- how long a row is: its widths, added (R120, R121, R123)
abbrev pub row_length : List ℕ → ℕ
row_length [] = 0
row_length (w ∷ ws) = w + row_length ws

-- where field k of the row at a place stands: behind the k fields before it
abbrev pub field_place : List ℕ → ℕ → ℕ → ℕ
field_place ws zero at = at
field_place ws (suc k) at = at + row_length (take (suc k) ws)

-- field k of the row at a place, read
abbrev pub field_at : List ℕ → ℕ → List ℕ → ℕ → ℕ
field_at ws k b at = get (get_or ws k 0) b (field_place ws k at)
