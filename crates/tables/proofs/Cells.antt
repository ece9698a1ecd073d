-- The cells of a row, as the code reads them, and its name beside another. Assumes nothing.
use mathlib.Core.Path.{◌≡◌, refl, sym, ap, ◌∙◌}
use mathlib.Core.Bool.{Bool, true, false, ◌&&◌, and-true}
use mathlib.Core.List.{List, ◌++◌}
use Prim.Native.Nat.{ℕ, ◌+◌, ◌-◌, ◌%◌, ◌^◌, ◌≤◌, ◌<◌, min}
use native.Mathlib.Nat.{zero-add}
use native.Mathlib.Omega.{arith}
use lib.ListN.{length, get_or, take, length-append}
use Rattle.le.specs.Mem.{read, get, same}
use Rattle.le.proofs.Lens.{get_one, take_read}
use Rattle.rules.proofs.Same.{same_length, same_append}
use Rattle.rules.proofs.Fields.{length_read, read_add, read_all}
use Rattle.tables.specs.Table.{row}
use Rattle.tables.specs.Layout.{number_at, parent_at, mount_cell_at, last_at, uid_at, gid_at, mode_at, first_at}
use Rattle.tables.specs.View.{mount_from_cells, name_from, node_from, node_at}

-- ---- the cells of row i

module _ (n : ℕ) (mem : List ℕ) (i : ℕ) where
  pub number_at_lem : (node_at n mem i).number ≡ get 8 mem (number_at n i) % 2 ^ 56
  unfolding node_at node_from row get
  number_at_lem = refl

  pub parent_at_lem : (node_at n mem i).parent ≡ get 8 mem (parent_at n i) % 2 ^ 56
  unfolding node_at node_from row get
  parent_at_lem = refl

  pub mount_at : (node_at n mem i).mount ≡ mount_from_cells (get 8 mem (mount_cell_at n i)) (get 4 mem (uid_at n i)) (get 4 mem (gid_at n i)) (get 4 mem (mode_at n i))
  unfolding node_at node_from row get
  mount_at = refl

  -- the length, and the bytes that it takes of the two cells
  pub name_at : (node_at n mem i).name ≡ take (get_or mem (last_at n i) 0 - 7) (read mem (first_at n i) 248) ++ take (min (get_or mem (last_at n i) 0) 7) (read mem (last_at n i + 1) 7)
  unfolding node_at node_from row name_from read
  name_at = refl

-- ---- names

-- row i, whose length byte is l, against a name
module _ (n : ℕ) (mem : List ℕ) (i l : ℕ) (p : List ℕ) (e : l ≡ get 1 mem (last_at n i)) (fits : l < 256) where
  -- the bytes of the name where they stand
  pub spelt : (node_at n mem i).name ≡ read mem (first_at n i) (l - 7) ++ read mem (last_at n i + 1) (min l 7)
  spelt =
      let h : get_or mem (last_at n i) 0 ≡ l = get_one mem (last_at n i) ∙ sym e in
      name_at n mem i
      ∙ rw (h, take_read mem (first_at n i) 248 (l - 7) (omega arith), take_read mem (last_at n i + 1) 7 (min l 7) (omega arith))

  pub other_length : (l ≡ length p → ⊥) → same (node_at n mem i).name p ≡ false
  other_length h =
      let long : length (node_at n mem i).name ≡ (l - 7) + min l 7 =
      ap length spelt ∙ length-append (read mem (first_at n i) (l - 7)) (read mem (last_at n i + 1) (min l 7)) ∙ rw (length_read mem (first_at n i) (l - 7), length_read mem (last_at n i + 1) (min l 7)) in
      same_length (node_at n mem i).name p (λ q. h (omega arith))

  -- the last bytes are all of it
  pub short_name : l ≡ length p → l ≤ 7 → same (node_at n mem i).name p ≡ same (read mem (last_at n i + 1) l) (read p 0 l)
  unfolding read
  short_name h b =
      let z : l - 7 ≡ 0 = omega arith in
      let m : min l 7 ≡ l = omega arith in
      let whole : read p 0 l ≡ p = rw h (read_all p) in
      ap (λ (s : List ℕ). same s p) (spelt ∙ rw (z, m)) ∙ ap (same (read mem (last_at n i + 1) l)) (sym whole)

  -- the last seven bytes, and the bytes before them
  pub long_name : l ≡ length p → 7 < l
      → same (node_at n mem i).name p ≡ (same (read mem (first_at n i) (l - 7)) (read p 0 (l - 7)) && same (read mem (last_at n i + 1) 7) (read p (l - 7) 7))
  long_name h b =
      let m : min l 7 ≡ 7 = omega arith in
      let k : length p ≡ (l - 7) + 7 = omega arith in
      let whole : p ≡ read p 0 (l - 7) ++ read p (l - 7) 7 = sym (read_all p) ∙ ap (read p 0) k ∙ read_add p 0 (l - 7) 7 ∙ rw zero-add in
      ap (λ (s : List ℕ). same s p) (spelt ∙ rw m) ∙ ap (same (read mem (first_at n i) (l - 7) ++ read mem (last_at n i + 1) 7)) whole
      ∙ same_append (read mem (first_at n i) (l - 7)) _ (read p 0 (l - 7)) _ (length_read mem (first_at n i) (l - 7) ∙ sym (length_read p 0 (l - 7)))

  pub long_same : l ≡ length p → 7 < l → same (read mem (last_at n i + 1) 7) (read p (l - 7) 7) ≡ true
      → same (node_at n mem i).name p ≡ same (read mem (first_at n i) (l - 7)) (read p 0 (l - 7))
  long_same h b f = long_name h b ∙ ap (λ (t : Bool). same (read mem (first_at n i) (l - 7)) (read p 0 (l - 7)) && t) f ∙ and-true (same (read mem (first_at n i) (l - 7)) (read p 0 (l - 7)))
