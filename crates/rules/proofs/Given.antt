-- The slot of an index that no call gives away is as it was, or empty; and as it was, as long as its mount stands. Assumes nothing.
use mathlib.Core.Path.{◌≡◌, refl, sym, ap, ◌∙◌}
use mathlib.Core.Bool.{true, false≢true}
use mathlib.Core.Logic.{◌⊎◌, inl, inr, ⊎_elim}
use mathlib.Core.List.{List, [], ◌∷◌}
use Prim.Native.Nat.{ℕ}
use Rattle.rules.specs.Instance.{Slot, Instance, empty_slot, counter_of, slot_of, held_in}
use Rattle.rules.specs.Calls.{Call, rule}
use Rattle.rules.specs.claims.Trace.{after_all}
use Rattle.rules.specs.claims.Kept.{Ungiven, Standing, same_slot, emptied, handed_out, by_restored}
use Rattle.rules.proofs.Allocation.{not_held}
use Rattle.rules.proofs.Trace.{searches}
use Rattle.rules.proofs.Slots.{every_slot}

pub ungiven_slot : (cs : List Call) (i : Instance) (k : ℕ) → Ungiven k i cs → (slot_of (after_all i cs) k ≡ slot_of i k) ⊎ (slot_of (after_all i cs) k ≡ empty_slot)
unfolding Ungiven after_all
ungiven_slot [] i k u = inl refl
ungiven_slot (c ∷ cs) i k u =
    let on = ungiven_slot cs (rule i c).after k u.1 in
    elim (every_slot i c k) [
      | same_slot e ↦ ⊎_elim (λ a. inl (a ∙ e)) (λ a. inr a) on
      | emptied z o e ↦ inr (⊎_elim (λ a. a ∙ e) (λ a. a) on)
      | handed_out z e ↦ absurd (u.0 (z, inl e))
      | by_restored z e ↦ absurd (u.0 (z, inr e))
    ]

-- a held slot stays as long as no call ends its mount: no search finds it
pub standing_slot : (cs : List Call) (i : Instance) (k : ℕ) → Standing k i cs → held_in i k ≡ true → slot_of (after_all i cs) k ≡ slot_of i k
unfolding Standing after_all
standing_slot [] i k s h = refl
standing_slot (c ∷ cs) i k s h =
    elim (every_slot i c k) [
      | same_slot e ↦ standing_slot cs (rule i c).after k s.1 (ap (λ (y : Slot). y.held) e ∙ h) ∙ e
      | emptied z o e ↦ absurd (s.0 (z, inl o))
      | handed_out z e ↦ absurd (false≢true (sym (not_held (held_in i) (counter_of i) k (sym (searches i c k e).0.1 ∙ e)) ∙ h))
      | by_restored z e ↦ absurd (s.0 (z, inr e))
    ]
