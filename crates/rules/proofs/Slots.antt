-- What changes a slot, of every call. Assumes nothing.
use mathlib.Core.Path.{◌≡◌, refl, sym, ap, ◌∙◌}
use mathlib.Core.Logic.{◌⊎◌, inl, inr, ⊎_elim}
use mathlib.Core.List.{List}
use Rattle.std.specs.Prelude.{Option, None, Some}
use Rattle.std.proofs.lemmas.Option.{none-some}
use Prim.Native.Nat.{ℕ, ◌≤◌, ◌<◌}
use native.Mathlib.Decide.{ℕ_discrete}
use lib.ListN.{length, get_or, set, length-set, get_or-eq_default}
use lib.Seq.{get_or-set_same, get_or-set_other, set_out}
use Rattle.rules.specs.Tree.{Mount}
use Rattle.rules.specs.Instance.{Slot, Instance, empty_slot, held_by, slot_of, mount_of_node}
use Rattle.rules.specs.Outcome.{nothing, says}
use Rattle.rules.specs.Mount.{Request, freed_slots, placed, allocation, mount_by_index, restore_mount_by_index}
use Rattle.rules.specs.Reached.{reached, reached_mount}
use Rattle.rules.specs.Unmount.{unmounts}
use Rattle.rules.specs.Saved.{state_of}
use Rattle.rules.specs.StateRestore.{state_restored_to}
use Rattle.rules.specs.Calls.{mount, restore_mount, umount, restore_from_bytes}
use Rattle.rules.specs.claims.Kept.{index_in, SlotAfter, same_slot, emptied, handed_out, by_restored, EverySlot}
use Rattle.rules.proofs.Tests.{le_or_lt}
use Rattle.rules.proofs.Rows.{each_of}
use Rattle.rules.proofs.Ways.{every_call}

-- ---- lists of slots

-- a slot that was emptied is empty, within the list or behind it
pub emptied_slot : (slots : List Slot) (k : ℕ) → get_or (set slots k empty_slot) k empty_slot ≡ empty_slot
emptied_slot slots k =
    ⊎_elim (λ (l : length slots ≤ k). ap (λ (x : List Slot). get_or x k empty_slot) (set_out slots k empty_slot l) ∙ get_or-eq_default slots empty_slot l)
    (λ (l : k < length slots). get_or-set_same slots k empty_slot empty_slot l) (le_or_lt (length slots) k)

-- where slot k was emptied each is as it was, or is slot k
cleared : (slots : List Slot) (k j : ℕ) → (get_or (set slots k empty_slot) j empty_slot ≡ get_or slots j empty_slot) ⊎ ((k ≡ j) × (get_or (set slots k empty_slot) j empty_slot ≡ empty_slot))
cleared slots k j =
    elim (ℕ_discrete j k) [
      | yes e ↦ inr (sym e, ap (λ (x : ℕ). get_or (set slots k empty_slot) x empty_slot) e ∙ emptied_slot slots k)
      | no e ↦ inl (get_or-set_other slots k j empty_slot empty_slot e)
    ]

-- the slot of a mount that loses its index is empty
pub freed_empty : (m : Option Mount) (slots : List Slot) (j : ℕ) → index_in m ≡ Some j → get_or (freed_slots m slots) j empty_slot ≡ empty_slot
unfolding freed_slots
freed_empty None slots j e = absurd (none-some j e)
freed_empty (Some m) slots j e =
    let s : m.index ≡ j = cc in
    ap (λ (k : ℕ). get_or (set slots k empty_slot) j empty_slot) s ∙ emptied_slot slots j

-- each slot is as it was, or is that one
freed : (m : Option Mount) (slots : List Slot) (j : ℕ) → (get_or (freed_slots m slots) j empty_slot ≡ get_or slots j empty_slot) ⊎ ((index_in m ≡ Some j) × (get_or (freed_slots m slots) j empty_slot ≡ empty_slot))
unfolding freed_slots
freed None slots j = inl refl
freed (Some m) slots j = ⊎_elim inl (λ a. inr (ap {B = Option ℕ} Some a.0, a.1)) (cleared slots m.index j)

-- freeing leaves as many slots
pub freed_slots_lem : (m : Option Mount) (slots : List Slot) → length (freed_slots m slots) ≡ length slots
unfolding freed_slots
freed_slots_lem None slots = refl
freed_slots_lem (Some m) slots = length-set slots m.index empty_slot

-- ---- calls

-- another slot than the one that a mount was placed in
other_slot : (k : ℕ) (r : Request) (x : ℕ) (i : Instance) (j : ℕ) → (j ≡ k → ⊥) → (slot_of (placed k r x i) j ≡ slot_of i j) ⊎ ((index_in (mount_of_node i.tree x) ≡ Some j) × (slot_of (placed k r x i) j ≡ empty_slot))
unfolding placed
other_slot k r x i j n =
    let slots = freed_slots (mount_of_node i.tree x) i.indexes.slots in
    let e = get_or-set_other slots k j (held_by r.tag) empty_slot n in
    ⊎_elim (λ a. inl (e ∙ a)) (λ a. inr (a.0, e ∙ a.1)) (freed (mount_of_node i.tree x) i.indexes.slots j)

mount_as : (i : Instance) (r : Request) (k : Option ℕ) → (allocation i).found ≡ k → (j : ℕ) → SlotAfter i (mount r) (mount_by_index i r k) j
unfolding mount_by_index
mount_as i r None e j = same_slot refl
mount_as i r (Some k) e j =
    each_of (λ o. SlotAfter i (mount r) o j) _ _ (
      same_slot refl,
      (
        same_slot refl,
        elim (ℕ_discrete j k) [
          | yes s ↦ handed_out refl (e ∙ ap {B = Option ℕ} Some (sym s))
          | no n ↦ ⊎_elim same_slot (λ a. emptied refl a.0 a.1) (other_slot k _ _ _ j n)
        ],
      ),
    )

restored_as : (i : Instance) (k : ℕ) (r : Request) (j : ℕ) → SlotAfter i (restore_mount k r) (restore_mount_by_index i k r) j
unfolding restore_mount_by_index
restored_as i k r j =
    each_of (λ o. SlotAfter i (restore_mount k r) o j) _ _ (
      same_slot refl,
      elim (ℕ_discrete j k) [
        | yes s ↦ by_restored refl (ap {B = Option ℕ} Some (sym s))
        | no n ↦ ⊎_elim same_slot (λ a. emptied refl a.0 a.1) (other_slot k _ _ _ j n)
      ],
    )

unmounted : (i : Instance) (path : List ℕ) (x : ℕ) (m : Mount) → reached i path ≡ Some x → mount_of_node i.tree x ≡ Some m → (j : ℕ) → SlotAfter i (umount path) (unmounts i x m) j
unfolding unmounts
unmounted i path x m q e j =
    let old : index_in (reached_mount i (reached i path)) ≡ Some m.index = ap (λ (y : Option ℕ). index_in (reached_mount i y)) q ∙ ap index_in e in
    ⊎_elim same_slot (λ a. emptied refl (old ∙ ap {B = Option ℕ} Some a.0) a.1) (cleared i.indexes.slots m.index j)

state_restored : (i : Instance) (b : List ℕ) (j : ℕ) → SlotAfter i (restore_from_bytes b) (says nothing (state_restored_to (state_of b) i)) j
unfolding state_restored_to
state_restored i b j = same_slot refl

-- the theorem
pub every_slot : EverySlot
every_slot = every_call (λ i c o. (j : ℕ) → SlotAfter i c o j) (record {
  still = λ i c o q s j. same_slot (ap (λ (a : Instance). slot_of a j) s.after);
  early = λ i c code e j. same_slot refl;
  mounts = λ i r p j. mount_as i r (allocation i).found refl j;
  restores_mount = λ i k r p on j. restored_as i k r j;
  unmounted = unmounted;
  sets_removal = λ i j. same_slot refl;
  state_restored = λ i b ok j. state_restored i b j;
})
