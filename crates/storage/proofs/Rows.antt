-- Rows written with all their cells: the table then has these nodes. Assumes nothing.
use mathlib.Core.Path.{◌≡◌, refl, ap, ◌∙◌}
use mathlib.Core.List.{List, [], ◌∷◌, ◌++◌, append-nil, append_assoc}
use Rattle.std.specs.Prelude.{Option, None, Some}
use Prim.Native.Nat.{ℕ, suc, ◌+◌, ◌-◌, ◌*◌, ◌%◌, ◌^◌, ◌≤◌, ◌<◌}
use native.Mathlib.Nat.{mod-eq_of_lt, add-zero}
use native.Mathlib.Omega.{arith}
use lib.ListN.{length, take, drop, length-append, length-take, length-drop}
use Rattle.le.specs.Mem.{read, bytes_of}
use Rattle.rules.specs.Numbers.{storage_for}
use Rattle.rules.specs.Bytes.{Bytes}
use Rattle.rules.specs.Tree.{Mount, Node}
use Rattle.rules.proofs.Fields.{length_bytes_of}
use Rattle.tables.specs.Table.{put_row}
use Rattle.tables.specs.Layout.{last_at, first_at, node_table, number_at, parent_at, mount_cell_at, uid_at, gid_at, mode_at}
use Rattle.tables.specs.View.{mount_from_cells, name_from, node_from, nodes_from}
use Rattle.tables.specs.Write.{MayFit}
use Rattle.tables.proofs.Table.{length_put_row}
use Rattle.tables.proofs.Table.{over, Fit}
use Rattle.tables.proofs.Spells.{cell_back, mount_word, name_back}
use Rattle.tables.proofs.Refine.{nodes_more}
use Rattle.storage.specs.Limits.{NodeFits, NodesFit}
use Rattle.storage.proofs.Bytes.{AllBytes, number_bytes, append_bytes, take_bytes, drop_bytes, row_bytes_lem}

-- ---- a row with all its cells

abbrev word_of : Option Mount → ℕ
word_of None = 0
word_of (Some m) = m.index * 2 ^ 56 + m.root

abbrev uid_of : Option Mount → ℕ
uid_of None = 0
uid_of (Some m) = m.uid

abbrev gid_of : Option Mount → ℕ
gid_of None = 0
gid_of (Some m) = m.gid

abbrev mode_of : Option Mount → ℕ
mode_of None = 0
mode_of (Some m) = m.mode

unfoldable pub row_cells : Node → List (List ℕ)
row_cells x =
    bytes_of 8 x.number
    ∷ bytes_of 8 x.parent
    ∷ bytes_of 8 (word_of x.mount)
    ∷ (bytes_of 1 (length x.name) ++ drop (length x.name - 7) x.name)
    ∷ bytes_of 4 (uid_of x.mount)
    ∷ bytes_of 4 (gid_of x.mount)
    ∷ bytes_of 4 (mode_of x.mount)
    ∷ take (length x.name - 7) x.name
    ∷ []

word_back : (m : Option Mount) → MayFit m → mount_from_cells (word_of m) (uid_of m) (gid_of m) (mode_of m) ≡ m
unfolding mount_from_cells
word_back None f = refl
word_back (Some m) f = mount_word m f

record Words (m : Option Mount) : Type 0 where
  pub word : word_of m < 256 ^ 8
  pub uid : uid_of m < 256 ^ 4
  pub gid : gid_of m < 256 ^ 4
  pub mode : mode_of m < 256 ^ 4

words : (m : Option Mount) → MayFit m → Words m
words None f = record { word = omega arith; uid = omega arith; gid = omega arith; mode = omega arith }
words (Some m) f = record { word = omega arith; uid = omega arith; gid = omega arith; mode = omega arith }

row_fits : (n : ℕ) (x : Node) → NodeFits x → Fit (node_table n) (row_cells x)
unfolding row_cells
row_fits n x f =
    let p = x.name in
    let h = f.2 in
    let e : length (bytes_of 1 (length p) ++ drop (length p - 7) p) ≤ 8 = simp (length-append, length_bytes_of, length-drop) (omega arith) in
    let g : length (take (length p - 7) p) ≤ 248 = simp length-take (omega arith) in
    omega (arith, length_bytes_of 8 x.number, length_bytes_of 8 x.parent, length_bytes_of 8 (word_of x.mount), length_bytes_of 4 (uid_of x.mount), length_bytes_of 4 (gid_of x.mount), length_bytes_of 4 (mode_of x.mount))

row_spelt : (n : ℕ) (x : Node) (mem : List ℕ) (i : ℕ) → NodeFits x → node_from (over (node_table n) (row_cells x) mem i) ≡ x
unfolding node_from over row_cells
row_spelt n x mem i f =
    let p = x.name in
    let m = x.mount in
    let fits = words m f.4 in
    let u = cell_back 8 x.number mem (number_at n i) (let h = f.0 in omega arith) in
    let v = cell_back 8 x.parent mem (parent_at n i) (let h = f.1 in omega arith) in
    let w = cell_back 8 (word_of m) mem (mount_cell_at n i) fits.word in
    let a = cell_back 4 (uid_of m) mem (uid_at n i) fits.uid in
    let b = cell_back 4 (gid_of m) mem (gid_at n i) fits.gid in
    let c = cell_back 4 (mode_of m) mem (mode_at n i) fits.mode in
    let last = bytes_of 1 (length p) ++ drop (length p - 7) p in
    let first = take (length p - 7) p in
    let name : name_from (last ++ read mem (last_at n i + length last) (8 - length last)) (first ++ read mem (first_at n i + length first) (248 - length first)) ≡ p =
    name_back p (read mem (last_at n i + length last) (8 - length last)) (read mem (first_at n i + length first) (248 - length first)) f.2 in
    let d : x.number % 2 ^ 56 ≡ x.number = mod-eq_of_lt f.0 in
    let e : x.parent % 2 ^ 56 ≡ x.parent = mod-eq_of_lt f.1 in
    λ t. record {
      number = (ap (λ (y : ℕ). y % 2 ^ 56) u ∙ d) t;
      parent = (ap (λ (y : ℕ). y % 2 ^ 56) v ∙ e) t;
      name = name t;
      mount = ((λ s. mount_from_cells (w s) (a s) (b s) (c s)) ∙ word_back m f.4) t;
    }

cells_bytes : (x : Node) → Bytes x.name → AllBytes (row_cells x)
unfolding row_cells
cells_bytes x h =
    let p = x.name in (
      number_bytes 8 x.number,
      (
        number_bytes 8 x.parent,
        (
          number_bytes 8 (word_of x.mount),
          (
            append_bytes (bytes_of 1 (length p)) (drop (length p - 7) p) (number_bytes 1 (length p)) (drop_bytes (length p - 7) p h),
            (number_bytes 4 (uid_of x.mount), (number_bytes 4 (gid_of x.mount), (number_bytes 4 (mode_of x.mount), (take_bytes (length p - 7) p h, omega arith)))),
          ),
        ),
      ),
    )

-- ---- the rows, from row k on

unfoldable pub put_rows : ℕ → List Node → ℕ → List ℕ → List ℕ
put_rows n [] k mem = mem
put_rows n (x ∷ xs) k mem = put_rows n xs (k + 1) (put_row (node_table n) (row_cells x) mem k)

module _ (n : ℕ) where
  pub length_rows : (xs : List Node) (k : ℕ) (mem : List ℕ) → length (put_rows n xs k mem) ≡ length mem
  unfolding put_rows
  length_rows [] k mem = refl
  length_rows (x ∷ xs) k mem = length_rows xs (k + 1) (put_row (node_table n) (row_cells x) mem k) ∙ length_put_row (node_table n) (row_cells x) mem k

  pub rows_bytes : (xs : List Node) (k : ℕ) (mem : List ℕ) → NodesFit xs → Bytes mem → Bytes (put_rows n xs k mem)
  unfolding put_rows
  rows_bytes [] k mem f h = h
  rows_bytes (x ∷ xs) k mem f h =
      rows_bytes xs (k + 1) (put_row (node_table n) (row_cells x) mem k) f.1 (row_bytes_lem (node_table n) (row_cells x) mem k h (cells_bytes x f.0.3))

  pub rows_there : (xs : List Node) (k : ℕ) (mem : List ℕ) → NodesFit xs → k + length xs ≤ n → storage_for n ≤ length mem
      → nodes_from n (put_rows n xs k mem) 0 (k + length xs) ≡ nodes_from n mem 0 k ++ xs
  unfolding put_rows
  rows_there [] k mem f h l = rw (add-zero, append-nil)
  rows_there (x ∷ xs) k mem f h l =
      let cells = row_cells x in
      let m' = put_row (node_table n) cells mem k in
      let e : k + suc (length xs) ≡ k + 1 + length xs = omega arith in
      let size : length m' ≡ length mem = length_put_row (node_table n) cells mem k in
      let one : nodes_from n m' 0 (k + 1) ≡ nodes_from n mem 0 k ++ (x ∷ []) =
      nodes_more n cells mem k (omega arith) (row_fits n x f.0) l ∙ ap (λ (y : Node). nodes_from n mem 0 k ++ (y ∷ [])) (row_spelt n x mem k f.0) in
      rw e (rows_there xs (k + 1) m' f.1 (omega arith) (omega arith) ∙ (ap (λ (ys : List Node). ys ++ xs) one ∙ append_assoc (nodes_from n mem 0 k) (x ∷ []) xs))
