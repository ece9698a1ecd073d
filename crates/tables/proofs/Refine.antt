-- What each write does to the instance that the bytes stand for. Assumes nothing.
use mathlib.Core.Path.{◌≡◌, sym, ap, ◌∙◌, subst}
use mathlib.Core.Bool.{Bool}
use mathlib.Core.Logic.{◌⊎◌, inl, inr, ⊎_elim}
use mathlib.Core.List.{List, [], ◌∷◌, ◌++◌}
use Rattle.std.specs.Prelude.{Option, None, Some}
use Prim.Native.Nat.{ℕ, suc, ◌+◌, ◌-◌, ◌*◌, ◌^◌, ◌≤◌, ◌<◌}
use native.Mathlib.Nat.{mod-eq_of_lt, zero-add, add-zero}
use native.Mathlib.Omega.{arith}
use lib.ListN.{length, set}
use Rattle.le.specs.Mem.{read, value, bytes_of, get}
use Rattle.rules.proofs.Fields.{length_bytes_of, value_bytes}
use Rattle.rules.proofs.Tests.{le_or_lt}
use Rattle.rules.specs.Numbers.{storage_for}
use Rattle.rules.specs.Tree.{Mount, Node, bare, with_mount}
use Rattle.rules.specs.Instance.{slot_of, with_counter, with_slot, with_tree, removing, grown}
use Rattle.tables.specs.Table.{row, put_row, close_up, tab}
use Rattle.tables.specs.Layout.{table_at, count_at, next_at, root_cell_at, root_uid_at, root_gid_at, root_mode_at, header, occupancy_at, tags_at, slot_table, node_table, capacity_of, count_of, next_of, capacity_field, count_field, counter_field, removal_field, root_cell_field}
use Rattle.tables.specs.View.{field, mount_from_cells, node_from, slot_from, instance_from, head_of, slot_at, node_at, slots_of, nodes_from, nodes_of, view}
use Rattle.tables.specs.Write.{from_place, set_count, set_counter, set_removal, yes_byte, set_held, set_tag, set_slot, mount_cells, row_mount_cells, MayFit, set_root_mount, set_row_mount, node_cells, append_node, remove_row}
use Rattle.tables.proofs.Tab.{remove_at, tab_same, tab_set, tab_append, tab_remove}
use Rattle.tables.specs.Laid.{Bounds}
use Rattle.tables.proofs.Table.{over, Fit, length_put_row, length_close_up, upper_kept, lower_kept, close_low, close_high, put_other, put_same}
use Rattle.tables.proofs.Indexes.{slot_of_lem}
use Rattle.tables.proofs.Spells.{cell_back, yes_back, yes_fits, mount_word, mount_written, cells_fit, node_written, mount_fit, root_fit}
use Rattle.tables.proofs.Heads.{slots_ordered, nodes_ordered, header_beneath, slots_beneath, slots_above, nodes_above, view_header, low_head, low_slots, put_low, closed_low, head_low, view_low, two_fields, one_fit, fields_fit}

-- ---- the bytes of the header

-- a byte that is written is read
byte_value : (v : ℕ) → v < 256 → value (bytes_of 1 v) ≡ v
byte_value v h = value_bytes 1 v ∙ mod-eq_of_lt h

pub view_counter : (c : ℕ) (mem : List ℕ) → c < 256 → occupancy_at ≤ length mem → view (set_counter c mem) ≡ with_counter c (view mem)
unfolding set_counter view nodes_of over row bytes_of value read
view_counter c mem h l = view_header counter_field (bytes_of 1 c ∷ []) mem (omega arith) l ∙ (λ t. with_counter (byte_value c h t) (view mem))

pub view_removal : (mem : List ℕ) → occupancy_at ≤ length mem → view (set_removal mem) ≡ removing (view mem)
unfolding set_removal view nodes_of over row bytes_of value read
view_removal mem l = view_header removal_field (bytes_of 1 1 ∷ []) mem (omega arith) l

-- ---- two places

apart : (i j : ℕ) → (j ≡ i → ⊥) → (i < j) ⊎ (j < i)
apart i j q = ⊎_elim (λ (a : i ≤ j). ⊎_elim (λ (b : j ≤ i). absurd (q (omega arith))) (λ (b : i < j). inl b) (le_or_lt j i)) (λ (a : j < i). inr a) (le_or_lt i j)

-- ---- a slot

-- cells that are written into slot k leave the header
pub slot_head : (k : ℕ) (xs : List (List ℕ)) (mem : List ℕ) → head_of (put_row slot_table xs mem k) ≡ head_of mem
slot_head k xs mem = lower_kept 1 header slot_table xs mem k occupancy_at 0 (omega arith) header_beneath slots_above

-- and the nodes, and of the slots change that one
module _ (k : ℕ) (h : k < 256) (xs : List (List ℕ)) (mem : List ℕ) (f : Fit slot_table xs) where
  slots_set : table_at ≤ length mem → slots_of (put_row slot_table xs mem k) ≡ set (slots_of mem) k (slot_from (over slot_table xs mem k))
  unfolding slots_of slot_at
  slots_set l =
      tab_set (slot_at mem) (slot_at (put_row slot_table xs mem k)) 0 k 256 h
      (λ j q b. ap slot_from (put_other 256 k h slot_table xs mem j 0 slots_ordered f b (apart k j (λ z. q (omega arith)))))
      ∙ ap (set (tab (slot_at mem) 0 256) k) (rw zero-add (ap slot_from (put_same 256 k h slot_table xs mem 0 slots_ordered (omega arith) f)))

  slot_nodes : (n i c : ℕ) → nodes_from n (put_row slot_table xs mem k) i c ≡ nodes_from n mem i c
  unfolding nodes_from node_at
  slot_nodes n i c =
      tab_same _ _ i c (λ j a b. ap node_from (upper_kept 256 slot_table (node_table n) xs mem k table_at j h slots_beneath (nodes_above n table_at (omega arith)) f))

  view_cells : table_at ≤ length mem → view (put_row slot_table xs mem k) ≡ with_slot k (slot_from (over slot_table xs mem k)) (view mem)
  unfolding view nodes_of
  view_cells l =
      let m' = put_row slot_table xs mem k in
      let heads : head_of m' ≡ head_of mem = slot_head k xs mem in
      let nodes : nodes_from (field capacity_field (head_of m')) m' 0 (field count_field (head_of m')) ≡ nodes_from (field capacity_field (head_of mem)) mem 0 (field count_field (head_of mem)) =
      slot_nodes (field capacity_field (head_of m')) 0 (field count_field (head_of m')) ∙ (λ i. nodes_from (field capacity_field (heads i)) mem 0 (field count_field (heads i))) in
      λ i. instance_from (heads i) (slots_set l i) (nodes i)

module _ (k : ℕ) (h : k < 256) (mem : List ℕ) (l : table_at ≤ length mem) where
  -- occupancy is written: the tag stays
  pub view_held : (held : Bool) → view (set_held k held mem) ≡ with_slot k (record { held = held; tag = (slot_of (view mem) k).tag }) (view mem)
  unfolding set_held slot_from over row slot_at
  view_held held =
      let a = cell_back 1 (yes_byte held) mem (occupancy_at + 1 * k) (yes_fits held) in
      let there : slot_at mem k ≡ slot_of (view mem) k = sym (slot_of_lem mem k h) in
      view_cells k h (bytes_of 1 (yes_byte held) ∷ []) mem (omega (arith, length_bytes_of 1 (yes_byte held))) l
      ∙ rw a (λ i. with_slot k (record { held = yes_back held i; tag = (there i).tag }) (view mem))

  -- the tag is written: occupancy stays
  pub view_tag : (tag : ℕ) → tag < 2 ^ 32 → view (set_tag k tag mem) ≡ with_slot k (record { held = (slot_of (view mem) k).held; tag = tag }) (view mem)
  unfolding set_tag slot_from over row slot_at
  view_tag tag t =
      let b = cell_back 4 tag mem (tags_at + 4 * k) t in
      let there : slot_at mem k ≡ slot_of (view mem) k = sym (slot_of_lem mem k h) in
      view_cells k h ([] ∷ bytes_of 4 tag ∷ []) mem (omega (arith, length_bytes_of 4 tag)) l
      ∙ rw (add-zero, b) (λ i. with_slot k (record { held = (there i).held; tag = tag }) (view mem))

-- both
pub view_slot : (k : ℕ) → k < 256 → (held : Bool) (tag : ℕ) (mem : List ℕ) → tag < 2 ^ 32 → table_at ≤ length mem → view (set_slot k held tag mem) ≡ with_slot k (record { held = held; tag = tag }) (view mem)
unfolding set_slot set_tag set_held put_row slot_from over
view_slot k h held tag mem t l =
    let a = cell_back 1 (yes_byte held) mem (occupancy_at + 1 * k) (yes_fits held) in
    let b = cell_back 4 tag mem (tags_at + 4 * k) t in
    view_cells k h (bytes_of 1 (yes_byte held) ∷ bytes_of 4 tag ∷ []) mem (omega (arith, length_bytes_of 1 (yes_byte held), length_bytes_of 4 tag)) l
    ∙ rw (a, b) (λ i. with_slot k (record { held = yes_back held i; tag = tag }) (view mem))

-- ---- a row

module _ (n : ℕ) (xs : List (List ℕ)) (mem : List ℕ) (i : ℕ) (b : i < n) (f : Fit (node_table n) xs) (l : storage_for n ≤ length mem) where
  abbrev P : List ℕ
  P = put_row (node_table n) xs mem i

  -- the node that the row then spells
  abbrev written : Node
  written = node_from (over (node_table n) xs mem i)

  row_there : node_at n P i ≡ written
  unfolding node_at
  row_there = ap node_from (put_same n i b (node_table n) xs mem 0 (nodes_ordered n) (omega arith) f)

  row_other : (j : ℕ) → j < n → (j ≡ i → ⊥) → node_at n P j ≡ node_at n mem j
  unfolding node_at
  row_other j c q = ap node_from (put_other n i b (node_table n) xs mem j 0 (nodes_ordered n) f c (apart i j q))

  nodes_set : (c : ℕ) → i < c → c ≤ n → nodes_from n P 0 c ≡ set (nodes_from n mem 0 c) i written
  unfolding nodes_from
  nodes_set c h g =
      tab_set (node_at n mem) (node_at n P) 0 i c h (λ j q e. row_other j (omega arith) (λ z. q (omega arith)))
      ∙ ap (set (tab (node_at n mem) 0 c) i) (rw zero-add row_there)

  pub nodes_more : nodes_from n P 0 (i + 1) ≡ nodes_from n mem 0 i ++ (written ∷ [])
  unfolding nodes_from
  nodes_more =
      tab_append (node_at n mem) (node_at n P) i (λ j e. row_other j (omega arith) (λ z. omega arith))
      ∙ ap (λ (x : Node). tab (node_at n mem) 0 i ++ (x ∷ [])) row_there

rows_closed : (n : ℕ) (mem : List ℕ) (i k : ℕ) → i + 1 + k ≤ n → storage_for n ≤ length mem → nodes_from n (close_up (node_table n) mem i k) 0 (i + k) ≡ remove_at i (nodes_from n mem 0 (i + suc k))
unfolding nodes_from node_at
rows_closed n mem i k fits l =
    tab_remove (node_at n mem) (node_at n (close_up (node_table n) mem i k)) i k
    (λ j b. ap node_from (close_low n i k fits (node_table n) mem j 0 (nodes_ordered n) b))
    (λ j a b. ap node_from (close_high n i k fits (node_table n) mem j 0 (nodes_ordered n) (omega arith) a b))

-- ---- what the writes of rows and mounts do

module _ (mem : List ℕ) (d : Bounds mem) where
  abbrev n : ℕ
  n = capacity_of mem

  abbrev c : ℕ
  c = count_of mem

  -- ---- a new node

  pub head_append : (parent : ℕ) (p : List ℕ) → head_of (append_node parent p mem) ≡ over header (from_place count_field (bytes_of 8 (c + 1) ∷ bytes_of 8 (next_of mem + 1) ∷ [])) mem 0
  unfolding append_node
  head_append parent p =
      let x = next_of mem in
      let cells = node_cells x parent p in
      let m' = put_row (node_table n) cells mem c in
      let l : table_at ≤ length m' = omega (arith, length_put_row (node_table n) cells mem c, d.long) in
      ap head_of (two_fields (c + 1) (x + 1) m') ∙ head_low count_field _ m' mem (fields_fit (c + 1) (x + 1)) (put_low n cells mem c) l

  pub view_append : (parent : ℕ) (p : List ℕ) → c + 1 < n → next_of mem < 2 ^ 56 → parent < 2 ^ 56 → length p ≤ 255
      → view (append_node parent p mem) ≡ with_tree (grown (bare (next_of mem) parent p ∷ []) (view mem).tree) (view mem)
  unfolding append_node view nodes_of over row get
  view_append parent p room top up len =
      let x = next_of mem in
      let cells = node_cells x parent p in
      let m' = put_row (node_table n) cells mem c in
      let xs = bytes_of 8 (c + 1) ∷ bytes_of 8 (x + 1) ∷ [] in
      let l : table_at ≤ length m' = omega (arith, length_put_row (node_table n) cells mem c, d.long) in
      let a = cell_back 8 (c + 1) mem count_at (omega (arith, d.few_nodes)) in
      let b = cell_back 8 (x + 1) mem next_at (omega arith) in
      let nodes : nodes_from n m' 0 (c + 1) ≡ nodes_from n mem 0 c ++ (bare x parent p ∷ []) =
      nodes_more n cells mem c (omega arith) (cells_fit n x parent p len) d.long
      ∙ ap (λ (y : Node). nodes_from n mem 0 c ++ (y ∷ [])) (node_written n x parent p mem c top up len) in
      ap view (two_fields (c + 1) (x + 1) m') ∙ (view_low count_field xs m' mem (fields_fit (c + 1) (x + 1)) (put_low n cells mem c) l ∙ rw (a, b) (λ t. with_tree (record { next = x + 1; root = (view mem).tree.root; nodes = nodes t }) (view mem)))

  -- ---- a row removed

  pub head_remove : (i : ℕ) → head_of (remove_row i mem) ≡ over header (from_place count_field (bytes_of 8 (c - 1) ∷ [])) mem 0
  unfolding remove_row set_count
  head_remove i =
      let k = c - 1 - i in
      let l : table_at ≤ length (close_up (node_table n) mem i k) = omega (arith, length_close_up (node_table n) mem i k, d.long) in
      head_low count_field _ _ mem (one_fit (c - 1)) (closed_low n mem i k) l

  pub view_remove : (i : ℕ) → i < c → view (remove_row i mem) ≡ with_tree (record { next = (view mem).tree.next; root = (view mem).tree.root; nodes = remove_at i (view mem).tree.nodes }) (view mem)
  unfolding remove_row set_count view nodes_of over row get
  view_remove i h =
      let k = c - 1 - i in
      let m' = close_up (node_table n) mem i k in
      let xs = bytes_of 8 (c - 1) ∷ [] in
      let l : table_at ≤ length m' = omega (arith, length_close_up (node_table n) mem i k, d.long) in
      let fits : i + 1 + k ≤ n = omega (arith, d.live) in
      let a = cell_back 8 (c - 1) mem count_at (omega (arith, d.few_nodes, d.live)) in
      let e : i + k ≡ c - 1 = omega arith in
      let g : i + suc k ≡ c = omega arith in
      let gone : nodes_from n m' 0 (c - 1) ≡ remove_at i (nodes_from n mem 0 c) =
      subst (λ (z : ℕ). nodes_from n m' 0 z ≡ remove_at i (nodes_from n mem 0 c)) e (subst (λ (z : ℕ). nodes_from n m' 0 (i + k) ≡ remove_at i (nodes_from n mem 0 z)) g (rows_closed n mem i k fits d.long)) in
      view_low count_field xs m' mem (one_fit (c - 1)) (closed_low n mem i k) l ∙ rw a (λ t. with_tree (record { next = (view mem).tree.next; root = (view mem).tree.root; nodes = gone t }) (view mem))

  -- ---- mounts

  pub view_row_mount : (m : Option Mount) (i : ℕ) → MayFit m → i < c
      → view (set_row_mount m i mem) ≡ with_tree (record { next = (view mem).tree.next; root = (view mem).tree.root; nodes = set (view mem).tree.nodes i (with_mount m (node_at n mem i)) }) (view mem)
  unfolding set_row_mount view nodes_of row get
  view_row_mount m i f h =
      let cells = row_mount_cells m in
      let m' = put_row (node_table n) cells mem i in
      let below : i < n = omega (arith, d.live) in
      let fit : Fit (node_table n) cells = mount_fit m n in
      let low = put_low n cells mem i in
      let heads : head_of m' ≡ head_of mem = low_head m' mem low in
      let nodes : nodes_from n m' 0 c ≡ set (nodes_from n mem 0 c) i (with_mount m (node_at n mem i)) =
      nodes_set n cells mem i below fit d.long c h (omega (arith, d.live)) ∙ ap (set (nodes_from n mem 0 c) i) (mount_written m n mem i f) in
      let all : nodes_from (field capacity_field (head_of m')) m' 0 (field count_field (head_of m')) ≡ nodes_from n m' 0 c = λ t. nodes_from (field capacity_field (heads t)) m' 0 (field count_field (heads t)) in
      λ t. instance_from (heads t) (low_slots m' mem low t) ((all ∙ nodes) t)

  pub view_root_mount : (m : Option Mount) → MayFit m → view (set_root_mount m mem) ≡ with_tree (record { next = (view mem).tree.next; root = m; nodes = (view mem).tree.nodes }) (view mem)
  unfolding set_root_mount view mount_from_cells nodes_of over row get
  view_root_mount None f =
      let w = cell_back 8 0 mem root_cell_at (omega arith) in
      view_header root_cell_field (mount_cells None) mem (root_fit None) (omega (arith, d.long)) ∙ rw w
  view_root_mount (Some m) f =
      let v = m.index * 2 ^ 56 + m.root in
      let w = cell_back 8 v mem root_cell_at (omega (arith, f.few, f.root)) in
      let a = cell_back 4 m.uid mem root_uid_at f.uid in
      let b = cell_back 4 m.gid mem root_gid_at f.gid in
      let e = cell_back 4 m.mode mem root_mode_at f.mode in
      view_header root_cell_field (mount_cells (Some m)) mem (root_fit (Some m)) (omega (arith, d.long)) ∙ rw (w, a, b, e, mount_word m f)
