-- The tables that lent bytes stand for as one run of bytes, by the page of the layout; bytes past the end are none.
use Rattle.std.specs.Prelude.{ℕ, zero, suc, ◌+◌, ◌-◌, ◌*◌, cond, List, [], ◌∷◌, ◌++◌, get_or, eqb, leb}
use Rattle.path.specs.Steps.{part}

-- a byte as 0 or 1
abbrev pub flag_of : ℕ → List ℕ
flag_of b = cond (eqb b 0) 0 1 ∷ []

-- 0 for none, else 1 and what is there
unfoldable pub optional : ℕ → List ℕ → List ℕ
optional b s = flag_of b ++ cond (eqb b 0) [] s

-- a mount by its index: its cell, uid, gid and mode
unfoldable pub mount_bytes : List ℕ → ℕ → ℕ → ℕ → ℕ → ℕ → List ℕ
mount_bytes s index cell uid gid mode = optional index (part s cell 8 ++ part s uid 4 ++ part s gid 4 ++ part s mode 4)

-- slot k: its tag, where it is held
unfoldable pub slot_bytes : List ℕ → ℕ → List ℕ
slot_bytes s k = optional (get_or s (256 + k) 0) (part s (512 + 4 * k) 4)

-- a name of so many bytes: the length, and the bytes in order, the last seven in the cell
unfoldable pub name_bytes : List ℕ → ℕ → ℕ → ℕ → ℕ → List ℕ
name_bytes s len cell last front = part s cell 1 ++ cond (leb len 7) (part s last len) (part s front (len - 7) ++ part s last 7)

-- row i of a table of n: seven bytes of its number, seven of its parent, its mount, its name
unfoldable pub row_bytes : List ℕ → ℕ → ℕ → List ℕ
row_bytes s n i =
    part s (8192 + 8 * i) 7 ++ part s (8192 + 8 * n + 8 * i) 7
    ++ mount_bytes s (get_or s (8192 + 16 * n + 8 * i + 7) 0) (8192 + 16 * n + 8 * i) (8192 + 32 * n + 4 * i) (8192 + 36 * n + 4 * i) (8192 + 40 * n + 4 * i)
    ++ name_bytes s (get_or s (8192 + 24 * n + 8 * i) 0) (8192 + 24 * n + 8 * i) (8192 + 24 * n + 8 * i + 1) (8192 + 44 * n + 248 * i)

-- n pieces from the k-th on, one behind the other
unfoldable pub viewed_pieces : (ℕ → List ℕ) → ℕ → ℕ → List ℕ
viewed_pieces f zero k = []
viewed_pieces f (suc n) k = f k ++ viewed_pieces f n (k + 1)

-- the header from N on, its two flags, the root's mount, the slots, the rows
unfoldable pub table_bytes : List ℕ → List ℕ
table_bytes s =
    part s 8 74 ++ flag_of (get_or s 82 0) ++ flag_of (get_or s 83 0) ++ mount_bytes s (get_or s 95 0) 88 96 100 104
    ++ viewed_pieces (slot_bytes s) 256 0 ++ viewed_pieces (row_bytes s (get_or s 8 0 + 256 * get_or s 9 0)) (get_or s 16 0 + 256 * get_or s 17 0) 0
