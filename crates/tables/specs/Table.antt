-- Tables in memory: columns of cells, one behind the other, over any list of columns; and lists given by a function of the place.
use Rattle.std.specs.Prelude.{ℕ, zero, suc, ◌+◌, ◌*◌, List, [], ◌∷◌}
use Rattle.le.specs.Mem.{read, write}

-- cells of `width` bytes from `base` on
pub record Col : Type 0 where
  pub base : ℕ
  pub width : ℕ

-- such a column
abbrev pub col : ℕ → ℕ → Col
col base width = record { base = base; width = width }

-- where cell i of a column is
abbrev pub off : Col → ℕ → ℕ
off c i = c.base + c.width * i

-- row i: a cell of each column
unfoldable pub row : List Col → List ℕ → ℕ → List (List ℕ)
row [] mem i = []
row (c ∷ cs) mem i = read mem (off c i) c.width ∷ row cs mem i

-- bytes are written into row i, from each cell's start on; no bytes leave a cell as it is, and so do fewer cells than columns
unfoldable pub put_row : List Col → List (List ℕ) → List ℕ → ℕ → List ℕ
put_row [] xs mem i = mem
put_row (c ∷ cs) [] mem i = mem
put_row (c ∷ cs) (x ∷ xs) mem i = put_row cs xs (write mem (off c i) x) i

-- the m rows from row k + 1 on go down by one
unfoldable pub close_up : List Col → List ℕ → ℕ → ℕ → List ℕ
close_up [] mem k m = mem
close_up (c ∷ cs) mem k m = close_up cs (write mem (off c k) (read mem (off c (k + 1)) (c.width * m))) k m

-- ---- lists

module _ {A : Type 0} where
  -- f at k places from i on
  unfoldable pub tab : (ℕ → A) → ℕ → ℕ → List A
  tab f i zero = []
  tab f i (suc k) = f i ∷ tab f (i + 1) k
