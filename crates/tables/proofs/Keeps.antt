-- Every write keeps the layout rule. Assumes nothing.
use mathlib.Core.Path.{◌≡◌, refl, ap₂, ◌∙◌}
use mathlib.Core.Bool.{Bool, true, false, cond}
use mathlib.Core.List.{List, [], ◌∷◌}
use Rattle.std.specs.Prelude.{Option, None, Some}
use Prim.Native.Nat.{ℕ, ◌+◌, ◌-◌, ◌^◌, ◌≤◌, ◌<◌}
use native.Mathlib.Omega.{arith}
use lib.ListN.{length}
use lib.Dec.{eqb}
use borrow.Author.Tests.{eqb-true, eq-eqb, leb-true, le-leb, ltb-true, lt-ltb, not-true}
use Rattle.le.specs.Mem.{bytes_of, get}
use Rattle.rules.specs.Numbers.{root_number, first_number, max_nodes, top_number, storage_for}
use Rattle.rules.specs.Ids.{bad_mapping}
use Rattle.rules.specs.Tree.{Mount}
use Rattle.rules.specs.Create.{unknown}
use Rattle.rules.proofs.Fields.{length_bytes_of}
use Rattle.rules.proofs.Create.{large_enough, is_large_enough, options_known, known_options}
use Rattle.rules.proofs.Tests.{pass, passed}
use Rattle.tables.specs.Table.{row, put_row}
use Rattle.tables.specs.Layout.{mark, table_at, count_at, next_at, header, occupancy_at, slot_table, node_table, capacity_of, count_of, next_of, capacity_field, count_field, counter_field, flags_field, known_field, mapping_field, mark_field, next_field, removal_field, root_cell_field}
use Rattle.tables.specs.View.{field, mapping_from, options_from, head_of, nodes_of}
use Rattle.tables.specs.Laid.{laid_by, laid, Bounds}
use Rattle.tables.specs.Write.{from_place, put_header, set_count, set_next, set_counter, set_removal, yes_byte, set_held, set_tag, set_slot, mount_cells, row_mount_cells, set_root_mount, set_row_mount, append_node, remove_row}
use Rattle.tables.specs.Answer.{place_in, at_place, node_mount_mem, remove_mem}
use Rattle.tables.proofs.Table.{over, Fit, length_put_row, length_close_up}
use Rattle.tables.proofs.Spells.{cell_back, root_fit}
use Rattle.tables.proofs.Heads.{low_head, put_low, head_put}
use Rattle.tables.proofs.Refine.{head_append, head_remove, slot_head}
use Rattle.tables.proofs.RowOf.{row_below}

-- ---- the tests of the rule, one by one

-- the mark, and the room for n nodes, which no call changes
pub record Sized (marker n bytes : ℕ) : Type 0 where
  pub long : table_at ≤ bytes
  pub marked : marker ≡ mark
  pub some_node : 1 ≤ n
  pub few_nodes : n ≤ max_nodes
  pub enough : storage_for n ≤ bytes

pub record Ruled (h : List (List ℕ)) (bytes : ℕ) : Type 0 where
  pub size : Sized (field mark_field h) (field capacity_field h) bytes
  pub live : field count_field h < field capacity_field h
  pub low : first_number ≤ field next_field h
  pub top : field next_field h ≤ top_number
  pub bits : unknown (field known_field h) (options_from h) ≡ false
  pub flags : field flags_field h < 64
  pub maps : bad_mapping (mapping_from mapping_field h) ≡ false

ruled : (h : List (List ℕ)) (bytes : ℕ) → laid_by h bytes ≡ true → Ruled h bytes
unfolding laid_by
ruled h bytes e =
    let t = passed _ e in
    let s = large_enough bytes (field capacity_field h) (not-true _ t.1.1.0) in
    let o = options_known (field known_field h) (options_from h) (not-true _ t.1.1.1.1.1.1.0) in
    record {
      size = record { long = leb-true table_at bytes t.0; marked = eqb-true (field mark_field h) mark t.1.0; some_node = s.0; few_nodes = s.1; enough = s.2 };
      live = ltb-true (field count_field h) (field capacity_field h) t.1.1.1.0;
      low = leb-true first_number (field next_field h) t.1.1.1.1.0;
      top = leb-true (field next_field h) top_number t.1.1.1.1.1.0;
      bits = o.0;
      flags = o.1;
      maps = not-true _ t.1.1.1.1.1.1.1.0;
    }

pub is_ruled : (h : List (List ℕ)) (bytes : ℕ) → Ruled h bytes → laid_by h bytes ≡ true
unfolding laid_by
is_ruled h bytes r =
    let s = is_large_enough bytes (field capacity_field h) r.size.some_node r.size.few_nodes r.size.enough in
    let o = known_options (field known_field h) (options_from h) r.bits r.flags in
    pass _ (
      le-leb table_at bytes r.size.long,
      (
        eq-eqb (field mark_field h) mark r.size.marked,
        (rw s, (lt-ltb (field count_field h) (field capacity_field h) r.live, (le-leb first_number (field next_field h) r.low, (le-leb (field next_field h) top_number r.top, (rw o, (rw r.maps, tt)))))),
      ),
    )

-- of the bytes
pub laid_ruled : (mem : List ℕ) → laid mem ≡ true → Ruled (head_of mem) (length mem)
unfolding laid
laid_ruled mem e = ruled (head_of mem) (length mem) e

-- they are enough for the header and the slots
pub laid_long : (mem : List ℕ) → laid mem ≡ true → table_at ≤ length mem
laid_long mem e = (laid_ruled mem e).size.long

-- what places of rows need
pub laid_is : (mem : List ℕ) → laid mem ≡ true → Bounds mem
unfolding row get
laid_is mem e =
    let r = laid_ruled mem e in
    record { few_nodes = r.size.few_nodes; long = r.size.enough; live = r.live; top = r.top }

-- ---- writes that leave the tested fields

same_laid : (m' mem : List ℕ) → head_of m' ≡ head_of mem → length m' ≡ length mem → laid m' ≡ laid mem
unfolding laid
same_laid m' mem h l = ap₂ laid_by h l

pub length_header : (k : ℕ) (xs : List (List ℕ)) (mem : List ℕ) → length (put_header k xs mem) ≡ length mem
unfolding put_header
length_header k xs mem = length_put_row header (from_place k xs) mem 0

pub length_append : (parent : ℕ) (p mem : List ℕ) → length (append_node parent p mem) ≡ length mem
unfolding append_node set_next set_count
length_append parent p mem = simp (length_header, length_put_row)

length_remove : (i : ℕ) (mem : List ℕ) → length (remove_row i mem) ≡ length mem
unfolding remove_row set_count
length_remove i mem = simp (length_header, length_close_up)

-- the first fourteen fields are those that the rule tests
laid_header : (k : ℕ) (xs : List (List ℕ)) (mem : List ℕ) → Fit header (from_place k xs) → occupancy_at ≤ length mem → laid (put_header k xs mem) ≡ laid_by (over header (from_place k xs) mem 0) (length mem)
unfolding laid
laid_header k xs mem f l = ap₂ laid_by (head_put k xs mem f l) (length_header k xs mem)

one_byte : (c : ℕ) → Fit header (from_place counter_field (bytes_of 1 c ∷ []))
one_byte c = omega (arith, length_bytes_of 1 c)

pub length_slot : (k : ℕ) (held : Bool) (tag : ℕ) (mem : List ℕ) → length (set_slot k held tag mem) ≡ length mem
unfolding set_slot set_tag set_held
length_slot k held tag mem = length_put_row slot_table ([] ∷ bytes_of 4 tag ∷ []) _ k ∙ length_put_row slot_table (bytes_of 1 (yes_byte held) ∷ []) mem k

slot_kept : (mem : List ℕ) → laid mem ≡ true → (k : ℕ) (xs : List (List ℕ)) → laid (put_row slot_table xs mem k) ≡ true
slot_kept mem e k xs = same_laid (put_row slot_table xs mem k) mem (slot_head k xs mem) (length_put_row slot_table xs mem k) ∙ e

pub keeps_held : (mem : List ℕ) → laid mem ≡ true → (k : ℕ) (held : Bool) → laid (set_held k held mem) ≡ true
unfolding set_held
keeps_held mem e k held = slot_kept mem e k (bytes_of 1 (yes_byte held) ∷ [])

pub keeps_tag : (mem : List ℕ) → laid mem ≡ true → (k tag : ℕ) → laid (set_tag k tag mem) ≡ true
unfolding set_tag
keeps_tag mem e k tag = slot_kept mem e k ([] ∷ bytes_of 4 tag ∷ [])

pub keeps_slot : (mem : List ℕ) → laid mem ≡ true → (k : ℕ) (held : Bool) (tag : ℕ) → laid (set_slot k held tag mem) ≡ true
unfolding set_slot
keeps_slot mem e k held tag = keeps_tag (set_held k held mem) (keeps_held mem e k held) k tag

module _ (mem : List ℕ) (e : laid mem ≡ true) where
  pub keeps_counter : (c : ℕ) → laid (set_counter c mem) ≡ true
  unfolding set_counter over row laid_by laid
  keeps_counter c = laid_header counter_field (bytes_of 1 c ∷ []) mem (one_byte c) (omega (arith, laid_long mem e)) ∙ e

  pub keeps_removal : laid (set_removal mem) ≡ true
  unfolding set_removal over row laid_by laid
  keeps_removal = laid_header removal_field (bytes_of 1 1 ∷ []) mem (omega (arith, length_bytes_of 1 1)) (omega (arith, laid_long mem e)) ∙ e

  pub keeps_root : (m : Option Mount) → laid (set_root_mount m mem) ≡ true
  unfolding set_root_mount over row laid_by laid
  keeps_root None = laid_header root_cell_field (mount_cells None) mem (root_fit None) (omega (arith, laid_long mem e)) ∙ e
  keeps_root (Some m) = laid_header root_cell_field (mount_cells (Some m)) mem (root_fit (Some m)) (omega (arith, laid_long mem e)) ∙ e

  rows_kept : (n : ℕ) (xs : List (List ℕ)) (i : ℕ) → laid (put_row (node_table n) xs mem i) ≡ true
  rows_kept n xs i =
      let m' = put_row (node_table n) xs mem i in
      same_laid m' mem (low_head m' mem (put_low n xs mem i)) (length_put_row (node_table n) xs mem i) ∙ e

  pub keeps_mount : (m : Option Mount) (x : ℕ) → laid (node_mount_mem (nodes_of mem) m x mem) ≡ true
  unfolding node_mount_mem set_row_mount
  keeps_mount m x = go (eqb x root_number) (place_in (nodes_of mem) x)
    where
      go : (b : Bool) (o : Option ℕ) → laid (cond b (set_root_mount m mem) (at_place o (λ (i : ℕ). set_row_mount m i mem) mem)) ≡ true
      go true o = keeps_root m
      go false None = e
      go false (Some i) = rows_kept (capacity_of mem) (row_mount_cells m) i

  -- ---- a node more, a node less

  abbrev c : ℕ
  c = count_of mem

  pub keeps_append : (parent : ℕ) (p : List ℕ) → c + 1 < capacity_of mem → next_of mem < 2 ^ 56 → laid (append_node parent p mem) ≡ true
  unfolding laid over row get
  keeps_append parent p room top =
      let x = next_of mem in
      let d = laid_ruled mem e in
      let a = cell_back 8 (c + 1) mem count_at (omega (arith, d.size.few_nodes)) in
      let b = cell_back 8 (x + 1) mem next_at (omega arith) in
      ap₂ laid_by (head_append mem (laid_is mem e) parent p) (length_append parent p mem)
      ∙ is_ruled (over header (from_place count_field (bytes_of 8 (c + 1) ∷ bytes_of 8 (x + 1) ∷ [])) mem 0) (length mem) (record {
        size = d.size;
        live = rw a room;
        low = rw b (omega (arith, d.low));
        top = rw b (omega arith);
        bits = d.bits;
        flags = d.flags;
        maps = d.maps;
      })

  removed : (i : ℕ) → i < c → laid (remove_row i mem) ≡ true
  unfolding laid over row get
  removed i h =
      let d = laid_ruled mem e in
      let a = cell_back 8 (c - 1) mem count_at (omega (arith, d.size.few_nodes, d.live)) in
      ap₂ laid_by (head_remove mem (laid_is mem e) i) (length_remove i mem)
      ∙ is_ruled (over header (from_place count_field (bytes_of 8 (c - 1) ∷ [])) mem 0) (length mem) (record {
        size = d.size;
        live = rw a (omega (arith, d.live));
        low = d.low;
        top = d.top;
        bits = d.bits;
        flags = d.flags;
        maps = d.maps;
      })

  pub keeps_gone : (x : ℕ) → laid (remove_mem (nodes_of mem) x mem) ≡ true
  unfolding remove_mem
  keeps_gone x = go (place_in (nodes_of mem) x) refl
    where
      go : (o : Option ℕ) → place_in (nodes_of mem) x ≡ o → laid (at_place o (λ (i : ℕ). remove_row i mem) mem) ≡ true
      go None q = e
      go (Some i) q = removed i (row_below mem x i q)
