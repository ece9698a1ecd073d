-- Every instance within the limits is the view of some bytes: its rows, its header, its slots and the root's mount are written into zeros. Assumes nothing.
use mathlib.Core.Path.{◌≡◌, refl, sym, ap, ◌∙◌}
use mathlib.Core.Bool.{true}
use mathlib.Core.List.{List, [], ◌∷◌, ◌++◌, append-nil, append_assoc}
use Rattle.std.specs.Prelude.{Option, None, Some}
use Prim.Native.Nat.{ℕ, ◌+◌, ◌*◌, ◌^◌, ◌<◌}
use native.Mathlib.Nat.{zero-add}
use native.Mathlib.Numerals.{add-one}
use native.Mathlib.Omega.{arith}
use lib.ListN.{length, take, set, replicate, length-replicate}
use lib.Seq.{take_all, take-suc-set}
use Rattle.le.specs.Mem.{bytes_of}
use Rattle.rules.specs.Bytes.{Bytes}
use Rattle.rules.specs.Numbers.{storage_for}
use Rattle.rules.specs.Tree.{Mount}
use Rattle.rules.specs.Instance.{Slot, Instance, with_tree, with_slots}
use Rattle.tables.specs.Table.{put_row, tab}
use Rattle.tables.specs.Layout.{root_cell_field, header, slot_table, mark_field}
use Rattle.tables.specs.View.{nodes_from, view}
use Rattle.tables.specs.Laid.{laid}
use Rattle.tables.specs.Write.{from_place, put_header, yes_byte, set_held, set_tag, set_slot, mount_cells, set_root_mount}
use Rattle.tables.proofs.Indexes.{slots_count}
use Rattle.tables.proofs.Refine.{view_slot, view_root_mount}
use Rattle.tables.proofs.Keeps.{laid_long, laid_is, length_header, length_slot, keeps_slot, keeps_root}
use Rattle.storage.specs.Header.{spell, header_of}
use Rattle.storage.specs.Limits.{SlotsFit, Onto}
use Rattle.storage.proofs.Bytes.{AllBytes, zeros_bytes, number_bytes, row_bytes_lem, spell_bytes, from_bytes}
use Rattle.storage.proofs.Header.{view_headed, laid_headed}
use Rattle.storage.proofs.Rows.{put_rows, length_rows, rows_bytes, rows_there}

-- ---- the slots, from slot k on

unfoldable put_slots : List Slot → ℕ → List ℕ → List ℕ
put_slots [] k mem = mem
put_slots (s ∷ ss) k mem = put_slots ss (k + 1) (set_slot k s.held s.tag mem)

slot_bytes_lem : (k : ℕ) (s : Slot) (mem : List ℕ) → Bytes mem → Bytes (set_slot k s.held s.tag mem)
unfolding set_slot set_tag set_held put_row
slot_bytes_lem k s mem h =
    row_bytes_lem slot_table (bytes_of 1 (yes_byte s.held) ∷ bytes_of 4 s.tag ∷ []) mem k h (number_bytes 1 (yes_byte s.held), (number_bytes 4 s.tag, omega arith))

pub record Slotted (mem : List ℕ) (ss : List Slot) (k : ℕ) (after : List ℕ) : Type 0 where
  pub size : length after ≡ length mem
  pub bytes : Bytes mem → Bytes after
  pub keeps : laid after ≡ true
  pub stands : view after ≡ with_slots (take k (view mem).indexes.slots ++ ss) (view mem)

slots_there : (ss : List Slot) (k : ℕ) (mem : List ℕ) → laid mem ≡ true → SlotsFit ss → k + length ss ≡ 256 → Slotted mem ss k (put_slots ss k mem)
unfolding put_slots
slots_there [] k mem e f h =
    let S = (view mem).indexes.slots in
    let all : S ≡ take k S ++ [] = sym (rw append-nil (take_all k S (omega (arith, slots_count mem)))) in
    record { size = refl; bytes = λ b. b; keeps = e; stands = λ t. with_slots (all t) (view mem) }
slots_there (s ∷ ss) k mem e f h =
    let m' = set_slot k s.held s.tag mem in
    let S = (view mem).indexes.slots in
    let low : k < 256 = omega arith in
    let v : view m' ≡ with_slots (set S k s) (view mem) = view_slot k low s.held s.tag mem f.0 (laid_long mem e) in
    let r = slots_there ss (k + 1) m' (keeps_slot mem e k s.held s.tag) f.1 (omega arith) in
    let in' : k < length S = omega (arith, slots_count mem) in
    let l : take (k + 1) (set S k s) ++ ss ≡ take k S ++ (s ∷ ss) = rw (add-one, take-suc-set S k s, append_assoc) in
    record {
      size = r.size ∙ length_slot k s.held s.tag mem;
      bytes = λ b. r.bytes (slot_bytes_lem k s mem b);
      keeps = r.keeps;
      stands = r.stands ∙ (ap (λ (i : Instance). with_slots (take (k + 1) i.indexes.slots ++ ss) i) v ∙ ap (λ (ys : List Slot). with_slots ys (view mem)) l);
    }

-- ---- all of it

root_length : (m : Option Mount) (mem : List ℕ) → length (set_root_mount m mem) ≡ length mem
unfolding set_root_mount
root_length m mem = length_header root_cell_field (mount_cells m) mem

root_bytes : (m : Option Mount) (mem : List ℕ) → Bytes mem → Bytes (set_root_mount m mem)
unfolding set_root_mount put_header
root_bytes m mem h = row_bytes_lem header (from_place root_cell_field (mount_cells m)) mem 0 h (from_bytes root_cell_field (mount_cells m) (cells m))
  where
    cells : (o : Option Mount) → AllBytes (mount_cells o)
    cells None = (number_bytes 8 0, omega arith)
    cells (Some o) = (number_bytes 8 (o.index * 2 ^ 56 + o.root), (number_bytes 4 o.uid, (number_bytes 4 o.gid, (number_bytes 4 o.mode, omega arith))))

head_bytes : (i : Instance) (mem : List ℕ) → Bytes mem → Bytes (put_header mark_field (spell header (header_of i)) mem)
unfolding put_header
head_bytes i mem h = row_bytes_lem header (spell header (header_of i)) mem 0 h (spell_bytes header (header_of i))

pub onto : Onto
unfolding nodes_from tab
onto i l =
    let n = i.fixed.capacity in
    let ns = i.tree.nodes in
    let ss = i.indexes.slots in
    let m₀ : List ℕ = replicate (storage_for n) 0 in
    let m₁ = put_rows n ns 0 m₀ in
    let m₂ = put_header mark_field (spell header (header_of i)) m₁ in
    let m₃ = put_slots ss 0 m₂ in
    let m₄ = set_root_mount i.tree.root m₃ in
    let size₀ : length m₀ ≡ storage_for n = length-replicate {A = ℕ} (storage_for n) 0 in
    let size₁ : length m₁ ≡ storage_for n = length_rows n ns 0 m₀ ∙ size₀ in
    let nodes : nodes_from n m₁ 0 (length ns) ≡ ns = rw zero-add at (rows_there n ns 0 m₀ l.nodes (omega (arith, l.live)) (omega arith)) in
    let keeps : laid m₂ ≡ true = laid_headed i m₁ l (omega arith) (omega arith) in
    let slotted = slots_there ss 0 m₂ keeps l.tags (omega (arith, l.slots)) in
    let v₂ = view_headed i m₁ l (omega arith) in
    let v₃ = slotted.stands ∙ ap (λ (j : Instance). with_slots ss j) v₂ in
    let v₄ = view_root_mount m₃ (laid_is m₃ slotted.keeps) i.tree.root l.root in (
      m₄,
      record {
        long = root_length i.tree.root m₃ ∙ (slotted.size ∙ (length_header mark_field (spell header (header_of i)) m₁ ∙ size₁));
        bytes = root_bytes i.tree.root m₃ (slotted.bytes (head_bytes i m₁ (rows_bytes n ns 0 m₀ l.nodes (zeros_bytes (storage_for n)))));
        keeps = keeps_root m₃ slotted.keeps i.tree.root;
        stands =
            v₄
            ∙ (ap (λ (j : Instance). with_tree (record { next = j.tree.next; root = i.tree.root; nodes = j.tree.nodes }) j) v₃
            ∙ (λ t. with_tree (record { next = i.tree.next; root = i.tree.root; nodes = nodes t }) i));
      },
    )
