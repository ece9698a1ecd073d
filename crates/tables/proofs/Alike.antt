-- The cell of a row's name beside the key of a name: where they differ, the names differ. Assumes nothing.
use mathlib.Core.Path.{◌≡◌, refl, sym, ap, ◌∙◌}
use mathlib.Core.Bool.{Bool, true, false, ◌&&◌, true≢false, and-false}
use mathlib.Core.List.{List}
use Rattle.std.specs.Prelude.{Option, None, Some}
use Prim.Native.Nat.{ℕ, ◌+◌, ◌-◌, ◌*◌, ◌%◌, ◌^◌, ◌≤◌, ◌<◌, min}
use native.Mathlib.Nat.{mod-eq_of_lt}
use native.Mathlib.Omega.{arith}
use borrow.Author.Tests.{eq-eqb, eqb-true, eqb-false, leb-true, leb-false}
use lib.ListN.{length}
use lib.Bits.{bit_and, and_mask}
use lib.Dec.{eqb, leb}
use Rattle.le.specs.Mem.{read, value, get, same, Bytes}
use Rattle.le.proofs.Lens.{get_add, get_split}
use Rattle.le.proofs.Same.{same_words, other_words}
use Rattle.rules.proofs.Tests.{and_both}
use Rattle.rules.proofs.Same.{same_eq}
use Rattle.rules.proofs.Fields.{bytes_bits, get_fits}
use Rattle.rules.specs.Tree.{is_child, child_in}
use Rattle.scan.specs.First.{cell_is, first_place}
use Rattle.scan.proofs.First.{found_holds, found_passes, none_passes}
use Rattle.scan.specs.Key.{mask_of, word_of}
use Rattle.tables.specs.Layout.{table_at, lasts_at, last_at, first_at, capacity_of, count_of}
use Rattle.tables.specs.View.{node_at, nodes_of}
use Rattle.tables.specs.Answer.{place_in}
use Rattle.tables.proofs.Cells.{number_at_lem, other_length, short_name, long_name, long_same}
use Rattle.tables.proofs.Find.{Sought, child_on, child_none, Placed, place_begins, place_here, place_on, place_none}

-- ---- the low bytes of a cell

-- k bytes are the eight, without those above them
low_of : (mem : List ℕ) (at k : ℕ) → Bytes mem → k ≤ 8 → get 8 mem at % 2 ^ (8 * k) ≡ get k mem at
low_of mem at k b h =
    let e : 8 ≡ k + (8 - k) = omega arith in
    ap (λ (n : ℕ). get 8 mem at % n) (bytes_bits k) ∙ ap (λ (n : ℕ). get n mem at % 256 ^ k) e ∙ (get_split k (8 - k) mem at b).0

low_bytes : (mem : List ℕ) (at m : ℕ) → Bytes mem → m ≤ 7 → get 8 mem at % 2 ^ (8 * (m + 1)) ≡ get 1 mem at + 256 * get m mem (at + 1)
low_bytes mem at m b h =
    let z : m + 1 ≡ 1 + m = omega arith in
    low_of mem at (m + 1) b (omega arith) ∙ ap (λ (n : ℕ). get n mem at) z ∙ get_add 1 m mem at

-- up to eight bytes are compared as one number
module _ (a b : List ℕ) (p q k : ℕ) (ba : Bytes a) (bb : Bytes b) (h : k ≤ 8) where
  by_numbers : eqb (get k a p) (get k b q) ≡ same (read a p k) (read b q k)
  by_numbers = go (eqb (get k a p) (get k b q)) refl
    where
      go : (t : Bool) → eqb (get k a p) (get k b q) ≡ t → eqb (get k a p) (get k b q) ≡ same (read a p k) (read b q k)
      go true e = e ∙ sym (same_words k a b p q ba bb (eqb-true (get k a p) (get k b q) e))
      go false e = e ∙ sym (other_words k a b p q (eqb-false (get k a p) (get k b q) e))

  pub by_number : (v w j m : ℕ) → v ≡ get 8 a p → w ≡ get 8 b q → m ≡ 2 ^ (8 * (j + 1)) - 1 → j + 1 ≡ k → eqb (bit_and v m) (bit_and w m) ≡ same (read a p k) (read b q k)
  by_number v w j m ev ew em ej =
      rw (ev, ew, em, ej, and_mask (get 8 a p) (8 * k), and_mask (get 8 b q) (8 * k), low_of a p k ba h, low_of b q k bb h) by_numbers

-- ---- a row and a name

get_of : (k : ℕ) (a b : List ℕ) (p q : ℕ) → read a p k ≡ read b q k → get k a p ≡ get k b q
unfolding get
get_of k a b p q e = ap value e

module _ (n : ℕ) (mem : List ℕ) (i : ℕ) (p : List ℕ) (b : Bytes mem) where
  abbrev l : ℕ
  l = get 1 mem (last_at n i)

  byte : l < 256
  byte = get_fits 1 mem (last_at n i) b

  same_long : same (node_at n mem i).name p ≡ true → l ≡ length p
  same_long e = go (eqb l (length p)) refl
    where
      go : (t : Bool) → eqb l (length p) ≡ t → l ≡ length p
      go true q = eqb-true l (length p) q
      go false q = absurd (true≢false (sym e ∙ other_length n mem i l p refl byte (eqb-false l (length p) q)))

  last_same : same (node_at n mem i).name p ≡ true → get (min l 7) mem (last_at n i + 1) ≡ get (min l 7) p (length p - 7)
  last_same e = go (leb l 7) refl
    where
      go : (t : Bool) → leb l 7 ≡ t → get (min l 7) mem (last_at n i + 1) ≡ get (min l 7) p (length p - 7)
      go true q =
          let h = same_long e in
          let few : l ≤ 7 = leb-true l 7 q in
          let m : min l 7 ≡ l = omega arith in
          let z : length p - 7 ≡ 0 = omega arith in
          rw (m, z) (get_of l mem p (last_at n i + 1) 0 (same_eq (read mem (last_at n i + 1) l) (read p 0 l) (sym (short_name n mem i l p refl byte h few) ∙ e)))
      go false q =
          let h = same_long e in
          let many : 7 < l = leb-false l 7 q in
          let m : min l 7 ≡ 7 = omega arith in
          rw m
          (get_of 7 mem p (last_at n i + 1) (length p - 7)
          (same_eq (read mem (last_at n i + 1) 7) (read p (length p - 7) 7)
          (and_both (same (read mem (first_at n i) (length p - 7)) (read p 0 (length p - 7))) _ (rw h at (sym (long_name n mem i l p refl byte h many) ∙ e))).1))

  pub like : same (node_at n mem i).name p ≡ true → cell_is mem (lasts_at n) (mask_of p) (word_of p) i ≡ true
  unfolding cell_is mask_of word_of
  like e =
      let h = same_long e in
      let m : min (length p) 7 ≡ min l 7 = ap (λ (x : ℕ). min x 7) (sym h) in
      let few : length p % 256 ≡ l = mod-eq_of_lt (omega (arith, h, byte)) ∙ sym h in
      eq-eqb (bit_and (get 8 mem (last_at n i)) (2 ^ (8 * (min (length p) 7 + 1)) - 1)) _
      (and_mask (get 8 mem (last_at n i)) (8 * (min (length p) 7 + 1))
      ∙ low_bytes mem (last_at n i) (min (length p) 7) b (omega arith)
      ∙ rw (few, m) (ap (λ (x : ℕ). l + 256 * x) (last_same e)))

  pub unlike : (here : ℕ) → cell_is mem (lasts_at n) (mask_of p) (word_of p) i ≡ false → is_child here p (node_at n mem i) ≡ false
  unfolding is_child
  unlike here f = go (same (node_at n mem i).name p) refl
    where
      go : (s : Bool) → same (node_at n mem i).name p ≡ s → (eqb (node_at n mem i).parent here && s) ≡ false
      go true e = absurd (true≢false (sym (like e) ∙ f))
      go false e = and-false (eqb (node_at n mem i).parent here)

  -- no row has a name of more than 255 bytes
  pub too_long_lem : (here : ℕ) → 255 < length p → is_child here p (node_at n mem i) ≡ false
  unfolding is_child
  too_long_lem here h = rw (other_length n mem i l p refl byte (λ q. omega (arith, q, byte))) (and-false (eqb (node_at n mem i).parent here))

  alike_length : cell_is mem (lasts_at n) (mask_of p) (word_of p) i ≡ true → length p ≤ 255 → l ≡ length p
  unfolding cell_is mask_of word_of
  alike_length e h =
      let q : l + 256 * get (min (length p) 7) mem (last_at n i + 1) ≡ length p % 256 + 256 * get (min (length p) 7) p (length p - 7) =
      sym (low_bytes mem (last_at n i) (min (length p) 7) b (omega arith)) ∙ sym (and_mask (get 8 mem (last_at n i)) (8 * (min (length p) 7 + 1)))
      ∙ eqb-true (bit_and (get 8 mem (last_at n i)) (2 ^ (8 * (min (length p) 7 + 1)) - 1)) (length p % 256 + 256 * get (min (length p) 7) p (length p - 7)) e in
      omega (arith, q, byte)

  -- where the cell is that of the name, the bytes before the last seven decide
  module _ (c : Bytes p) (e : cell_is mem (lasts_at n) (mask_of p) (word_of p) i ≡ true) (h : l ≡ length p) where
    last_alike : get (min l 7) mem (last_at n i + 1) ≡ get (min l 7) p (length p - 7)
    unfolding cell_is mask_of word_of
    last_alike =
        let m : min (length p) 7 ≡ min l 7 = ap (λ (x : ℕ). min x 7) (sym h) in
        let few : length p % 256 ≡ l = mod-eq_of_lt (omega (arith, h, byte)) ∙ sym h in
        let q : l + 256 * get (min l 7) mem (last_at n i + 1) ≡ l + 256 * get (min l 7) p (length p - 7) =
        sym (low_bytes mem (last_at n i) (min l 7) b (omega arith)) ∙ sym (and_mask (get 8 mem (last_at n i)) (8 * (min l 7 + 1)))
        ∙ (rw (m, few) at (eqb-true (bit_and (get 8 mem (last_at n i)) (2 ^ (8 * (min (length p) 7 + 1)) - 1)) (length p % 256 + 256 * get (min (length p) 7) p (length p - 7)) e)) in
        omega (arith, q)

    alike_named : same (node_at n mem i).name p ≡ same (read mem (first_at n i) (l - 7)) (read p 0 (l - 7))
    unfolding read same
    alike_named = go (leb l 7) refl
      where
        go : (t : Bool) → leb l 7 ≡ t → same (node_at n mem i).name p ≡ same (read mem (first_at n i) (l - 7)) (read p 0 (l - 7))
        go true q =
            let few : l ≤ 7 = leb-true l 7 q in
            let m : min l 7 ≡ l = omega arith in
            let z : length p - 7 ≡ 0 = omega arith in
            let y : l - 7 ≡ 0 = omega arith in
            short_name n mem i l p refl byte h few ∙ same_words l mem p (last_at n i + 1) 0 b c (rw (m, z) at last_alike) ∙ rw y refl
        go false q =
            let many : 7 < l = leb-false l 7 q in
            let m : min l 7 ≡ 7 = omega arith in
            let z : length p - 7 ≡ l - 7 = omega arith in
            long_same n mem i l p refl byte h many (same_words 7 mem p (last_at n i + 1) (l - 7) b c (rw (m, z) at last_alike))

  pub alike_start : Bytes p → cell_is mem (lasts_at n) (mask_of p) (word_of p) i ≡ true → length p ≤ 255
      → same (node_at n mem i).name p ≡ same (read mem (first_at n i) (length p - 7)) (read p 0 (length p - 7))
  alike_start c e h = let q = alike_length e h in rw q at (alike_named c e q)

-- ---- the search for a child by the cells of names

-- row r is reached from row i on: the rows before it are passed over, and its cell is that of the name
pub record Reaches (mem : List ℕ) (here : ℕ) (p : List ℕ) (i r : ℕ) : Type 0 where
  pub on : i ≤ r
  pub below : r < count_of mem
  pub alike : cell_is mem (lasts_at (capacity_of mem)) (mask_of p) (word_of p) r ≡ true
  pub sought : Sought mem here p r

-- m and w are the key's numbers
module _ (mem : List ℕ) (here : ℕ) (p : List ℕ) (b : Bytes mem) (m w : ℕ) (e : (m ≡ mask_of p) × (w ≡ word_of p)) (i : ℕ) (s : Sought mem here p i) where
  abbrev test : ℕ → Bool
  test = cell_is mem (lasts_at (capacity_of mem)) (mask_of p) (word_of p)

  passed : (j : ℕ) → j < i + (count_of mem - i) → test j ≡ false → Sought mem here p j → Sought mem here p (j + 1)
  passed j h f q = child_on mem here p j q (omega (arith, s.0)) (unlike (capacity_of mem) mem j p b here f)

  pub reaches : (r : ℕ) → Some r ≡ first_place (cell_is mem (lasts_at (capacity_of mem)) m w) i (count_of mem - i) → Reaches mem here p i r
  reaches r a =
      let f : first_place test i (count_of mem - i) ≡ Some r = rw (← e.0, ← e.1) (sym a) in
      let g = found_holds test i (count_of mem - i) r f in
      record { on = g.0; below = omega (arith, g.1, s.0); alike = g.2; sought = found_passes test (Sought mem here p) i (count_of mem - i) r f passed s }

  pub reaches_none : None ≡ first_place (cell_is mem (lasts_at (capacity_of mem)) m w) i (count_of mem - i) → child_in (nodes_of mem) here p ≡ None
  reaches_none a =
      let f : first_place test i (count_of mem - i) ≡ None = rw (← e.0, ← e.1) (sym a) in
      child_none mem here p (i + (count_of mem - i)) (none_passes test (Sought mem here p) i (count_of mem - i) f passed s) (omega arith)

-- ---- the search for a number

-- the cell of a row's number
module _ (mem : List ℕ) (x i : ℕ) where
  number_mask : bit_and (get 8 mem (table_at + 8 * i)) (2 ^ 56 - 1) ≡ (node_at (capacity_of mem) mem i).number
  number_mask = and_mask (get 8 mem (table_at + 8 * i)) 56 ∙ sym (number_at_lem (capacity_of mem) mem i)

  number_here : cell_is mem table_at (2 ^ 56 - 1) x i ≡ true → (node_at (capacity_of mem) mem i).number ≡ x
  unfolding cell_is
  number_here e = sym number_mask ∙ eqb-true _ x e

  number_other : cell_is mem table_at (2 ^ 56 - 1) x i ≡ false → (node_at (capacity_of mem) mem i).number ≡ x → ⊥
  unfolding cell_is
  number_other e h = eqb-false _ x e (number_mask ∙ h)

-- the place of a number is the first row with its cell
pub row_sought : (mem : List ℕ) (x : ℕ) → first_place (cell_is mem table_at (2 ^ 56 - 1) x) 0 (count_of mem - 0) ≡ place_in (nodes_of mem) x
row_sought mem x = go (first_place test 0 (count_of mem - 0)) refl
  where
    test : ℕ → Bool
    test = cell_is mem table_at (2 ^ 56 - 1) x

    passed : (j : ℕ) → j < 0 + (count_of mem - 0) → test j ≡ false → Placed mem x j → Placed mem x (j + 1)
    passed j h f q = place_on mem x j q (omega arith) (number_other mem x j f)

    go : (o : Option ℕ) → first_place test 0 (count_of mem - 0) ≡ o → o ≡ place_in (nodes_of mem) x
    go None e = sym (place_none mem x (0 + (count_of mem - 0)) (none_passes test (Placed mem x) 0 (count_of mem - 0) e passed (place_begins mem x)) (omega arith))
    go (Some r) e =
        let g = found_holds test 0 (count_of mem - 0) r e in
        sym (place_here mem x r (found_passes test (Placed mem x) 0 (count_of mem - 0) r e passed (place_begins mem x)) (omega (arith, g.1)) (number_here mem x r g.2))
