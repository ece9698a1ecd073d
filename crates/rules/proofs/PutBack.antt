-- A kept number over a restart: what is put back at an index is led to as before, and what is not is refused. Assumes nothing.
use mathlib.Core.Path.{◌≡◌, refl, sym, ap, ◌∙◌}
use mathlib.Core.Bool.{true, false}
use mathlib.Core.Logic.{◌⊎◌, inl, inr, ⊎_elim}
use mathlib.Core.List.{List, ◌∷◌}
use Rattle.std.specs.Prelude.{Option, None, Some}
use Rattle.std.proofs.lemmas.Option.{none-some}
use Prim.Native.Nat.{ℕ, ◌+◌, ◌<◌}
use native.Mathlib.Omega.{arith}
use native.Mathlib.Decide.{ℕ_discrete}
use lib.ListN.{length}
use lib.Dec.{eqb, ltb}
use borrow.Author.Tests.{not-false}
use Rattle.rules.specs.Numbers.{root_number, index_of, number_of}
use Rattle.rules.specs.Tree.{Mount}
use Rattle.rules.specs.Instance.{Slot, Instance, empty_slot, slot_of, tag_in_slot, tag_of, held_in, mount_of_node}
use Rattle.rules.specs.Outcome.{Outcome}
use Rattle.rules.specs.Lookup.{route_tag}
use Rattle.rules.specs.Saved.{State, encode, state_of}
use Rattle.rules.specs.StateRestore.{saved_nodes, saved_state, fresh, state_restored_to, restore_state_rule}
use Rattle.rules.specs.Calls.{Call, ask, route, rule}
use Rattle.rules.specs.claims.Driven.{Facts}
use Rattle.rules.specs.claims.Laps.{Has}
use Rattle.rules.specs.claims.Trace.{after_all}
use Rattle.rules.specs.claims.PutBack.{Putting, none_left, one_back, one_aside, Back, AnswersAs, EveryBack, EveryLeftOut, EveryAllBack}
use Rattle.rules.proofs.Tests.{known, untrue}
use Rattle.rules.proofs.Rows.{first_of_lem, either}
use Rattle.rules.proofs.Encoded.{state_read}
use Rattle.rules.proofs.Shape.{saved_from}
use Rattle.rules.proofs.Driven.{facts, none_held}
use Rattle.rules.proofs.SaveThenRestore.{saved_fits, restore_done}
use Rattle.rules.proofs.Others.{of_nodes, bare_nodes}
use Rattle.rules.proofs.Given.{ungiven_slot}
use Rattle.rules.proofs.Kept.{by_tag, leads_off}
use Rattle.rules.proofs.Putting.{Along, tag_in, back_step, aside_along}

-- ---- all of them

module _ (i : Instance) (f : Facts i) (k : ℕ) where
  has_rest : (q : ℕ) (ks : List ℕ) → (k ≡ q → ⊥) → Has k (q ∷ ks) → Has k ks
  has_rest q ks n (inl e) = absurd (n (sym e))
  has_rest q ks n (inr h) = h

  is_back : (j : Instance) (cs : List Call) (ks : List ℕ) → Putting i j cs ks → Along i j.tree j.indexes.slots → (tag_of j k ≡ tag_of i k) ⊎ Has k ks → tag_of (after_all j cs) k ≡ tag_of i k
  unfolding after_all
  is_back j cs ks (none_left _) a h = ⊎_elim (λ e. e) (λ w. absurd w) h
  is_back j cs ks (one_back _ c ds q qs b p) a h =
      let s = back_step i j f a c q b in
      is_back (rule j c).after ds qs p s.along
      (elim (ℕ_discrete k q) [
        | yes e ↦ inl (rw e s.here)
        | no n ↦ ⊎_elim (λ e. inl (s.elsewhere k n ∙ e)) (λ w. inr (has_rest q qs n w)) h
      ])
  is_back j cs ks (one_aside _ c ds qs b p) a h =
      is_back (rule j c).after ds ks p (aside_along i j f a c b) (⊎_elim (λ e. inl (ap (λ (slots : List Slot). tag_in slots k) b.slots ∙ e)) inr h)

  is_left_out : (j : Instance) (cs : List Call) (ks : List ℕ) → Putting i j cs ks → Along i j.tree j.indexes.slots → tag_of j k ≡ None → (Has k ks → ⊥) → tag_of (after_all j cs) k ≡ None
  unfolding after_all
  is_left_out j cs ks (none_left _) a e h = e
  is_left_out j cs ks (one_back _ c ds q qs b p) a e h =
      let s = back_step i j f a c q b in
      is_left_out (rule j c).after ds qs p s.along (s.elsewhere k (λ w. h (inl (sym w))) ∙ e) (λ w. h (inr w))
  is_left_out j cs ks (one_aside _ c ds qs b p) a e h =
      is_left_out (rule j c).after ds ks p (aside_along i j f a c b) (ap (λ (slots : List Slot). tag_in slots k) b.slots ∙ e) h

-- at their end
pub along_all : (i : Instance) → Facts i → (j : Instance) (cs : List Call) (ks : List ℕ) → Putting i j cs ks → Along i j.tree j.indexes.slots
    → Along i (after_all j cs).tree (after_all j cs).indexes.slots
unfolding after_all
along_all i f j cs ks (none_left _) a = a
along_all i f j cs ks (one_back _ c ds q qs b p) a = along_all i f (rule j c).after ds qs p (back_step i j f a c q b).along
along_all i f j cs ks (one_aside _ c ds qs b p) a = along_all i f (rule j c).after ds ks p (aside_along i j f a c b)

-- ---- from the restore on

-- a restore that is done found the instance fresh and with room
pub done_room : (j : Instance) (b : List ℕ) → (restore_state_rule j b).code ≡ 0 → (fresh j ≡ true) × (ltb j.fixed.capacity (1 + length (state_of b).nodes) ≡ false)
unfolding restore_state_rule
done_room j b =
    first_of_lem (λ (o : Outcome). o.code ≡ 0 → (fresh j ≡ true) × (ltb j.fixed.capacity (1 + length (state_of b).nodes) ≡ false)) _ _
    (λ a z. absurd (omega arith), λ a. (λ c z. absurd (omega arith), λ c. (λ d z. absurd (omega arith), λ d. (λ e z. absurd (omega arith), λ e z. (not-false _ a, e)))))

no_tag : (s : Slot) → s.held ≡ false → tag_in_slot s ≡ None
no_tag s e = rw e

module _ (i f j : Instance) (cs : List Call) (ks : List ℕ) (b : Back i f j cs ks) where
  pub gives : j ≡ state_restored_to (saved_state i) f
  gives =
      let r = b.restored in
      sym r.gives ∙ ((restore_done f (encode (saved_state i)) r.done).1 ∙ ap (λ (s : State). state_restored_to s f) (state_read (saved_state i) (saved_fits i (facts i b.before))))

  -- no mount stands, and no slot is held
  no_mount : (y : ℕ) → mount_of_node (state_restored_to (saved_state i) f).tree y ≡ None
  unfolding state_restored_to saved_state mount_of_node
  no_mount y = of_nodes None y _ _ (bare_nodes (saved_nodes i.tree.nodes) y) ∙ either (λ (o : Option Mount). o ≡ None) (eqb y root_number) (λ q. refl) (λ q. refl)

  pub start : Along i j.tree j.indexes.slots
  unfolding state_restored_to saved_state
  start = rw gives (record {
    next = refl;
    nodes = saved_from (saved_nodes i.tree.nodes);
    many = (facts f b.fresh).mounts.slots;
    mounts = λ y m q. absurd (none-some m (sym (no_mount y) ∙ q));
  })

  no_tag_yet : (k : ℕ) → tag_of j k ≡ None
  unfolding state_restored_to
  no_tag_yet k =
      let free = untrue (held_in f k) (none_held f (facts f b.fresh) (done_room f (encode (saved_state i)) b.restored.done).0 k) in
      rw gives (no_tag (slot_of f k) free)

  -- by the tag in its slot
  routed_as : (x : ℕ) → 0 < index_of x → (tag_of j (index_of x) ≡ tag_of i (index_of x)) ⊎ Has (index_of x) ks → AnswersAs (rule (after_all j cs) (ask (route x))) (rule i (ask (route x)))
  unfolding route_tag
  routed_as x p h =
      let k = index_of x in
      let l = after_all j cs in
      let t : tag_of l k ≡ tag_of i k = is_back i (facts i b.before) k j cs ks b.put start h in
      rw (by_tag l x p, by_tag i x p, t) (go (tag_of i k))
    where
      go : (o : Option ℕ) → AnswersAs (route_tag (after_all j cs) (index_of x) (number_of x) o) (route_tag i (index_of x) (number_of x) o)
      go None = (refl, refl)
      go (Some t) = (refl, refl)

-- the theorem: what was put back
pub every_back : EveryBack
every_back i f j cs ks b x p h = routed_as i f j cs ks b x p (inr h)

-- the theorem: what was left out
pub every_left_out : EveryLeftOut
every_left_out i f j cs ks b x p h ds u =
    let k = index_of x in
    let l = after_all j cs in
    let e : tag_of l k ≡ None = is_left_out i (facts i b.before) k j cs ks b.put (start i f j cs ks b) (no_tag_yet i f j cs ks b k) h in
    leads_off (after_all l ds) x p
    (⊎_elim (λ (s : slot_of (after_all l ds) k ≡ slot_of l k). ap tag_in_slot s ∙ e) (λ (s : slot_of (after_all l ds) k ≡ empty_slot). ap tag_in_slot s) (ungiven_slot ds l k u))

-- the theorem: where all are put back
pub every_all_back : EveryAllBack
every_all_back i f j cs ks b all x p =
    let k = index_of x in
    routed_as i f j cs ks b x p
    (⊎_elim (λ (h : held_in i k ≡ true). inr (all k p h)) (λ (h : held_in i k ≡ false). inl (no_tag_yet i f j cs ks b k ∙ sym (no_tag (slot_of i k) h))) (known (held_in i k)))
