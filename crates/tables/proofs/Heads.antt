-- Where the three tables stand, and what a write into the header does to the view, also where the rows above it changed. Assumes nothing.
use mathlib.Core.Path.{◌≡◌, refl, ap, ◌∙◌}
use mathlib.Core.List.{List, [], ◌∷◌}
use Prim.Native.Nat.{ℕ, ◌+◌, ◌≤◌}
use native.Mathlib.Omega.{arith}
use lib.ListN.{length}
use Rattle.le.specs.Mem.{read, bytes_of}
use Rattle.rules.proofs.Fields.{length_bytes_of}
use Rattle.tables.specs.Table.{put_row, close_up}
use Rattle.tables.specs.Layout.{table_at, header, occupancy_at, slot_table, node_table, capacity_field, count_field}
use Rattle.tables.specs.View.{field, node_from, slot_from, instance_from, head_of, slot_at, node_at, slots_of, nodes_from, nodes_of, view}
use Rattle.tables.specs.Write.{from_place, put_header, set_count, set_next}
use Rattle.tables.proofs.Tab.{tab_same}
use Rattle.tables.proofs.Table.{over, Above, Beneath, Behind, Fit, put_below, close_below, upper_kept, row_low, over_low, put_same}

-- ---- where the three tables stand

header_ordered : Behind 1 0 header
header_ordered = omega arith

pub slots_ordered : Behind 256 0 slot_table
slots_ordered = omega arith

pub nodes_ordered : (n : ℕ) → Behind n 0 (node_table n)
nodes_ordered n = omega arith

pub header_beneath : Beneath 1 header occupancy_at
header_beneath = omega arith

pub slots_beneath : Beneath 256 slot_table table_at
slots_beneath = omega arith

pub slots_above : Above occupancy_at slot_table
slots_above = omega arith

pub nodes_above : (n e : ℕ) → e ≤ table_at → Above e (node_table n)
nodes_above n e h = omega arith

-- ---- the header

module _ (k : ℕ) (xs : List (List ℕ)) (mem : List ℕ) (f : Fit header (from_place k xs)) where
  abbrev H : List (List ℕ)
  H = over header (from_place k xs) mem 0

  slots_kept : slots_of (put_header k xs mem) ≡ slots_of mem
  unfolding slots_of put_header slot_at
  slots_kept = tab_same _ _ 0 256 (λ j a b. ap slot_from (upper_kept 1 header slot_table (from_place k xs) mem 0 occupancy_at j (omega arith) header_beneath slots_above f))

  nodes_kept : (n i c : ℕ) → nodes_from n (put_header k xs mem) i c ≡ nodes_from n mem i c
  unfolding nodes_from put_header node_at
  nodes_kept n i c = tab_same _ _ i c (λ j a b. ap node_from (upper_kept 1 header (node_table n) (from_place k xs) mem 0 occupancy_at j (omega arith) header_beneath (nodes_above n occupancy_at (omega arith)) f))

  pub head_put : occupancy_at ≤ length mem → head_of (put_header k xs mem) ≡ H
  unfolding put_header
  head_put l = put_same 1 0 (omega arith) header (from_place k xs) mem 0 header_ordered (omega arith) f

  -- a write into the header: the view is read off its cells
  pub view_header : occupancy_at ≤ length mem → view (put_header k xs mem) ≡ instance_from H (slots_of mem) (nodes_from (field capacity_field H) mem 0 (field count_field H))
  unfolding view nodes_of
  view_header l =
      let h : head_of (put_header k xs mem) ≡ H = head_put l in
      let nodes : nodes_from (field capacity_field (head_of (put_header k xs mem))) (put_header k xs mem) 0 (field count_field (head_of (put_header k xs mem))) ≡ nodes_from (field capacity_field H) mem 0 (field count_field H) =
      nodes_kept (field capacity_field (head_of (put_header k xs mem))) 0 (field count_field (head_of (put_header k xs mem))) ∙ (λ t. nodes_from (field capacity_field (h t)) mem 0 (field count_field (h t))) in
      λ t. instance_from (h t) (slots_kept t) (nodes t)

-- ---- the header while the rows above it change

-- the bytes below the node table are as they were
abbrev pub Low : List ℕ → List ℕ → Type 0
Low m' mem = (q w : ℕ) → q + w ≤ table_at → read m' q w ≡ read mem q w

pub low_head : (m' mem : List ℕ) → Low m' mem → head_of m' ≡ head_of mem
low_head m' mem low = row_low 1 header m' mem 0 table_at (omega arith) (omega arith) low

pub low_slots : (m' mem : List ℕ) → Low m' mem → slots_of m' ≡ slots_of mem
unfolding slots_of slot_at
low_slots m' mem low = tab_same _ _ 0 256 (λ j a b. ap slot_from (row_low 256 slot_table m' mem j table_at b slots_beneath low))

-- so they are where a row is put, and where rows close up
pub put_low : (n : ℕ) (cells : List (List ℕ)) (mem : List ℕ) (i : ℕ) → Low (put_row (node_table n) cells mem i) mem
put_low n cells mem i q w h = put_below (node_table n) cells mem i table_at q w (nodes_above n table_at (omega arith)) h

pub closed_low : (n : ℕ) (mem : List ℕ) (i k : ℕ) → Low (close_up (node_table n) mem i k) mem
closed_low n mem i k q w h = close_below (node_table n) mem i k table_at q w (nodes_above n table_at (omega arith)) h

-- and then fields of the header are written
module _ (k : ℕ) (xs : List (List ℕ)) (m' mem : List ℕ) (f : Fit header (from_place k xs)) (low : Low m' mem) (l : table_at ≤ length m') where
  abbrev J : List (List ℕ)
  J = over header (from_place k xs) mem 0

  pub head_low : head_of (put_header k xs m') ≡ J
  head_low = head_put k xs m' f (omega arith) ∙ over_low 1 header (from_place k xs) m' mem 0 table_at (omega arith) (omega arith) f low

  pub view_low : view (put_header k xs m') ≡ instance_from J (slots_of mem) (nodes_from (field capacity_field J) m' 0 (field count_field J))
  view_low =
      let h : over header (from_place k xs) m' 0 ≡ J = over_low 1 header (from_place k xs) m' mem 0 table_at (omega arith) (omega arith) f low in
      view_header k xs m' f (omega arith) ∙ (λ t. instance_from (h t) (low_slots m' mem low t) (nodes_from (field capacity_field (h t)) m' 0 (field count_field (h t))))

pub two_fields : (c x : ℕ) (mem : List ℕ) → set_next x (set_count c mem) ≡ put_header count_field (bytes_of 8 c ∷ bytes_of 8 x ∷ []) mem
unfolding set_next set_count put_header put_row
two_fields c x mem = refl

pub one_fit : (u : ℕ) → Fit header (from_place count_field (bytes_of 8 u ∷ []))
one_fit u = omega (arith, length_bytes_of 8 u)

pub fields_fit : (u v : ℕ) → Fit header (from_place count_field (bytes_of 8 u ∷ bytes_of 8 v ∷ []))
fields_fit u v = omega (arith, length_bytes_of 8 u, length_bytes_of 8 v)
