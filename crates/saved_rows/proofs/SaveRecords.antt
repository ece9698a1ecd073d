-- The records of the rows, put one behind the other. Assumes nothing.
use mathlib.Core.Path.{◌≡◌, refl, sym, ap, ◌∙◌}
use mathlib.Core.List.{List, [], ◌∷◌, ◌++◌}
use Prim.Native.Nat.{ℕ, ◌+◌, ◌-◌, ◌*◌, ◌≤◌, ◌<◌}
use native.Mathlib.Nat.{zero-add}
use native.Mathlib.Omega.{arith}
use lib.ListN.{length, take, drop, length-append, length-drop}
use lib.Seq.{length-take-le}
use borrow.Rule.Slice.PartMut.{put_mid}
use Rattle.rules.specs.Numbers.{max_saved}
use Rattle.rules.specs.Fields.{row_length}
use Rattle.rules.specs.Tree.{Node}
use Rattle.rules.specs.Saved.{SavedNode, node_row, tail_length, head_bytes, node_bytes, nodes_bytes}
use Rattle.rules.specs.StateRestore.{saved_node, saved_nodes}
use Rattle.rules.proofs.Fields.{fields_length}
use Rattle.rules.proofs.Encoded.{node_length}
use Rattle.le.specs.Mem.{write}
use Rattle.le.proofs.Lens.{length-write, write_append}
use Rattle.le.proofs.Writes.{write_part}
use Rattle.tables.specs.Layout.{capacity_of, count_of}
use Rattle.tables.specs.View.{node_at, nodes_of}
use Rattle.tables.specs.Laid.{Bounds}
use Rattle.tables.proofs.Tab.{tab_next, tab_done}
use Rattle.tables.proofs.Find.{left, none_looked}
use Rattle.row_name.specs.Copied.{Copied}
use Rattle.row_name.proofs.Names.{name_short}
use Rattle.saved_rows.specs.Parts.{Sizes}

-- ---- one record

-- its fields, and its name behind them
module _ (n : SavedNode) (d : List ℕ) where
  abbrev head : List ℕ
  head = head_bytes n.number n.parent (length n.name)

  head_length : length head ≡ row_length node_row
  head_length = fields_length node_row (n.number ∷ n.parent ∷ length n.name ∷ []) refl

  record_put : write (write d 0 head) (row_length node_row) n.name ≡ write d 0 (node_bytes n)
  unfolding node_bytes
  record_put =
      let e : 0 + length head ≡ row_length node_row = omega (arith, head_length) in
      sym (write_append d 0 head n.name ∙ ap (λ (at : ℕ). write (write d 0 head) at n.name) e)

  pub record_puts : (x y len m : ℕ) (e₁ e₂ : List ℕ) → x ≡ n.number → y ≡ n.parent → len ≡ length n.name
      → e₁ ≡ write d 0 (head_bytes x y len) → Copied n.name e₁ (row_length node_row) m e₂ → Copied (node_bytes n) d 0 (row_length node_row + m) e₂
  record_puts x y len m e₁ e₂ a b l p w = record {
    count = ap (λ (k : ℕ). row_length node_row + k) w.count ∙ sym (node_length n);
    bytes = w.bytes ∙ rw (p, a, b, l) record_put;
  }

-- ---- the rows

module _ (mem : List ℕ) where
  abbrev node : ℕ → Node
  node i = node_at (capacity_of mem) mem i

  -- the records of all rows
  abbrev pub records : List ℕ
  records = nodes_bytes (saved_nodes (nodes_of mem))

  -- those of the rows from i on
  abbrev pub later : ℕ → ℕ → List ℕ
  later c i = nodes_bytes (saved_nodes (left mem c i))

  later_all : (c : ℕ) → c ≡ count_of mem → later c 0 ≡ records
  later_all c e = sym (ap (λ (ns : List Node). nodes_bytes (saved_nodes ns)) (none_looked mem c e))

  later_none : (c i : ℕ) → c ≤ i → later c i ≡ []
  unfolding nodes_bytes saved_nodes
  later_none c i h = rw (tab_done (node_at (capacity_of mem) mem) i c h)

  module _ (c i : ℕ) (h : i < c) where
    later_next : later c i ≡ node_bytes (saved_node (node i)) ++ later c (i + 1)
    unfolding nodes_bytes saved_nodes
    later_next = rw (tab_next (node_at (capacity_of mem) mem) i c h)

    later_size : length (later c i) ≡ row_length node_row + length (node i).name + length (later c (i + 1))
    later_size = omega (arith, ap length later_next, length-append (node_bytes (saved_node (node i))) (later c (i + 1)), node_length (saved_node (node i)))

-- ---- their size: i of c rows were counted

pub record Sized (mem : List ℕ) (c size i : ℕ) : Type 0 where
  pub rows : i ≤ c
  pub most : c ≤ 1023
  pub few : size ≤ 273 * i
  pub count : size + length (later mem c i) ≡ length (records mem)

pub sized_start : (mem : List ℕ) (c : ℕ) → Bounds mem → c ≡ count_of mem → Sized mem c 0 0
sized_start mem c l e = record {
  rows = omega arith;
  most = omega (arith, l.live, l.few_nodes);
  few = omega arith;
  count = zero-add (length (later mem c 0)) ∙ ap length (later_all mem c e);
}

module _ (mem : List ℕ) (c size i : ℕ) (s : Sized mem c size i) where
  pub sized_on : i < c → (l : ℕ) → l ≡ length (node mem i).name → Sized mem c (size + (row_length node_row + l)) (i + 1)
  sized_on h l e = record {
    rows = omega arith;
    most = s.most;
    few = omega (arith, s.few, name_short (capacity_of mem) mem i l e);
    count = omega (arith, s.count, later_size mem c i h);
  }

  -- what is counted stays small
  pub sized_small : size + tail_length ≤ max_saved
  sized_small = omega (arith, s.rows, s.most, s.few)

  pub sized_done : c ≤ i → Sizes mem size
  sized_done h = record { count = omega (arith, s.count, ap length (later_none mem c i h)); most = sized_small }

-- ---- put into d₀: i of c rows are done, and `at` bytes of d are written; putting the others behind these gives what putting all gives

pub record Putting (mem : List ℕ) (c : ℕ) (d₀ d : List ℕ) (at i : ℕ) : Type 0 where
  pub rows : i ≤ c
  pub long : length d ≡ length d₀
  pub fits : length (records mem) ≤ length d₀
  pub count : at + length (later mem c i) ≡ length (records mem)
  pub bytes : write d at (later mem c i) ≡ write d₀ 0 (records mem)

pub putting_start : (mem : List ℕ) (c : ℕ) (d : List ℕ) → c ≡ count_of mem → length (records mem) ≤ length d → Putting mem c d d 0 0
putting_start mem c d e h = record {
  rows = omega arith;
  long = refl;
  fits = h;
  count = zero-add (length (later mem c 0)) ∙ ap length (later_all mem c e);
  bytes = ap (write d 0) (later_all mem c e);
}

module _ (mem : List ℕ) (c : ℕ) (d₀ d : List ℕ) (at i : ℕ) (p : Putting mem c d₀ d at i) where
  pub putting_within : at ≤ length d
  putting_within = omega (arith, p.count, p.fits, p.long)

  pub putting_done : c ≤ i → d ≡ write d₀ 0 (records mem)
  putting_done h = ap (write d at) (sym (later_none mem c i h)) ∙ p.bytes

  module _ (h : i < c) where
    -- the unwritten rest, as it is lent
    abbrev rest : List ℕ
    rest = take (length d - at) (drop at d)

    rest_length : length rest ≡ length d - at
    rest_length = length-take-le (length d - at) (drop at d) (omega (arith, length-drop at d))

    pub putting_room : row_length node_row + length (node mem i).name ≤ length rest
    putting_room = omega (arith, rest_length, p.count, p.fits, p.long, later_size mem c i h)

    -- the record of row i is put there
    pub putting_on : (n : ℕ) (ys : List ℕ) → Copied (node_bytes (saved_node (node mem i))) rest 0 n ys → Putting mem c d₀ (put_mid at (length d - at) d ys) (at + n) (i + 1)
    putting_on n ys w =
        let r : List ℕ = node_bytes (saved_node (node mem i)) in
        let now : put_mid at (length d - at) d ys ≡ write d at r =
        ap (put_mid at (length d - at) d) w.bytes
        ∙ write_part d at (length d - at) r putting_within (omega (arith, putting_room, node_length (saved_node (node mem i)))) in
        rw (now, w.count)
        (record {
          rows = omega arith;
          long = length-write d at r ∙ p.long;
          fits = p.fits;
          count = omega (arith, p.count, later_size mem c i h, node_length (saved_node (node mem i)));
          bytes = sym (write_append d at r (later mem c (i + 1))) ∙ ap (write d at) (sym (later_next mem c i h)) ∙ p.bytes;
        })
