-- A done call that takes a mount off, and does not give its index away, leaves the slot of that index empty. Assumes nothing.
use mathlib.Core.Path.{◌≡◌, refl, sym, ap, ◌∙◌}
use mathlib.Core.Logic.{inl, inr}
use mathlib.Core.List.{List}
use Rattle.std.specs.Prelude.{Option, None, Some}
use Rattle.std.proofs.lemmas.Option.{none-some}
use Prim.Native.Nat.{ℕ}
use native.Mathlib.Omega.{arith}
use lib.ListN.{get_or, set}
use lib.Seq.{get_or-set_other}
use Rattle.rules.specs.Tree.{Mount}
use Rattle.rules.specs.Instance.{Instance, empty_slot, held_by, slot_of, mount_of_node}
use Rattle.rules.specs.Outcome.{Outcome}
use Rattle.rules.specs.Mount.{Request, freed_slots, placed, allocation, mount_by_index, mount_rule, restore_mount_by_index, restore_mount_rule}
use Rattle.rules.specs.Reached.{reached, reached_mount}
use Rattle.rules.specs.Unmount.{unmounts, unmount_at, unmount_rule}
use Rattle.rules.specs.Calls.{Call, mount, restore_mount, umount, set_remove_pseudo_root, restore_from_bytes, ask, rule}
use Rattle.rules.specs.claims.Kept.{old_mount, index_in, Gives}
use Rattle.rules.proofs.Rows.{each_of}
use Rattle.rules.proofs.Slots.{emptied_slot, freed_empty}

module _ (i : Instance) (j : ℕ) where
  -- where the call is done and takes a mount of j off, and does not give j away, the slot of j is empty
  abbrev Emptied : Call → Outcome → Type 0
  Emptied c o = o.code ≡ 0 → index_in (old_mount i c) ≡ Some j → (Gives j c o → ⊥) → slot_of o.after j ≡ empty_slot

  placed_empty : (k : ℕ) (r : Request) (x : ℕ) (a : Instance) → index_in (mount_of_node a.tree x) ≡ Some j → (j ≡ k → ⊥) → slot_of (placed k r x a) j ≡ empty_slot
  unfolding placed
  placed_empty k r x a e n =
      get_or-set_other (freed_slots (mount_of_node a.tree x) a.indexes.slots) k j (held_by r.tag) empty_slot n ∙ freed_empty (mount_of_node a.tree x) a.indexes.slots j e

  mount_empties : (r : Request) (k : Option ℕ) → (allocation i).found ≡ k → Emptied (mount r) (mount_by_index i r k)
  unfolding mount_by_index
  mount_empties r None f = λ z. absurd (omega arith)
  mount_empties r (Some k) f =
      each_of (Emptied (mount r)) _ _ (
        λ z. absurd (omega arith),
        (
          λ z. absurd (omega arith),
          λ z e g. placed_empty _ _ _ _ e (λ s. g (refl, inl (f ∙ ap {B = Option ℕ} Some (sym s)))),
        ),
      )

  restored_empties : (k : ℕ) (r : Request) → Emptied (restore_mount k r) (restore_mount_by_index i k r)
  unfolding restore_mount_by_index
  restored_empties k r =
      each_of (Emptied (restore_mount k r)) _ _
      (λ z. absurd (omega arith), λ z e g. placed_empty _ _ _ _ e (λ s. g (refl, inr (ap {B = Option ℕ} Some (sym s)))))

  unmount_empties : (path : List ℕ) (x : Option ℕ) (m : Option Mount) → reached_mount i (reached i path) ≡ m → Emptied (umount path) (unmount_at i x m)
  unfolding unmount_at unmounts
  unmount_empties path None m q z e g = absurd (omega arith)
  unmount_empties path (Some x) None q z e g = absurd (omega arith)
  unmount_empties path (Some x) (Some m) q z e g =
      let s : m.index ≡ j = let w = sym (ap index_in q) ∙ e in cc in
      ap (λ (k : ℕ). get_or (set i.indexes.slots k empty_slot) j empty_slot) s ∙ emptied_slot i.indexes.slots j

  mount_rule_lem : (r : Request) → Emptied (mount r) (mount_rule i r)
  unfolding mount_rule
  mount_rule_lem r =
      each_of (Emptied (mount r)) _ _ (
        λ z. absurd (omega arith),
        (λ z. absurd (omega arith), (λ z. absurd (omega arith), (λ z. absurd (omega arith), mount_empties r (allocation i).found refl))),
      )

  restore_mount_rule_lem : (k : ℕ) (r : Request) → Emptied (restore_mount k r) (restore_mount_rule i k r)
  unfolding restore_mount_rule
  restore_mount_rule_lem k r =
      each_of (Emptied (restore_mount k r)) _ _ (
        λ z. absurd (omega arith),
        (λ z. absurd (omega arith), (λ z. absurd (omega arith), (λ z. absurd (omega arith), (λ z. absurd (omega arith), (λ z. absurd (omega arith), restored_empties k r))))),
      )

  unmount_rule_lem : (path : List ℕ) → Emptied (umount path) (unmount_rule i path)
  unfolding unmount_rule
  unmount_rule_lem path = each_of (Emptied (umount path)) _ _ (λ z. absurd (omega arith), unmount_empties path (reached i path) (reached_mount i (reached i path)) refl)

  -- any other call takes none off
  other : (c : Call) → old_mount i c ≡ None → Emptied c (rule i c)
  other c n z e = absurd (none-some j (sym (ap index_in n) ∙ e))

  pub gone_slot : (c : Call) → Emptied c (rule i c)
  unfolding rule
  gone_slot (mount r) = mount_rule_lem r
  gone_slot (restore_mount k r) = restore_mount_rule_lem k r
  gone_slot (umount path) = unmount_rule_lem path
  gone_slot set_remove_pseudo_root = other set_remove_pseudo_root refl
  gone_slot (restore_from_bytes b) = other (restore_from_bytes b) refl
  gone_slot (ask q) = other (ask q) refl
