-- A driven instance is saved as a valid state exactly if its parents are all present, and then comes back; what was restored is saved as it was read;
-- and how long a state can be. Assumes nothing.
use mathlib.Core.Path.{◌≡◌, refl, sym, ap, ◌∙◌}
use mathlib.Core.Bool.{Bool, true, false, cond, not, ◌||◌, true≢false, or-true}
use mathlib.Core.Logic.{◌⊎◌, inl, inr, ⊎_elim}
use mathlib.Core.List.{List, [], ◌∷◌}
use Rattle.std.specs.Prelude.{Some}
use Prim.Native.Nat.{ℕ, ◌+◌, ◌≤◌}
use native.Mathlib.Omega.{arith}
use lib.ListN.{length}
use lib.Dec.{eqb, ltb}
use borrow.Author.Tests.{eqb-true, eq-eqb, leb-true, le-leb, le-ltb, not-true, not-false}
use Rattle.rules.specs.Numbers.{root_number, top_number}
use Rattle.rules.specs.Tree.{Node, is_none, node_in, is_known}
use Rattle.rules.specs.Instance.{Instance}
use Rattle.rules.specs.Outcome.{Outcome, first_of}
use Rattle.rules.specs.Create.{unknown}
use Rattle.rules.specs.Saved.{SavedNode, present, good_name, valid, encode, accepted, state_of}
use Rattle.rules.specs.StateRestore.{saved_nodes, nodes_of_records, saved_state, state_restored_to, restore_state_rule}
use Rattle.rules.specs.claims.RoundTrip.{SavedNodesFit, Fits, NamesTo}
use Rattle.rules.specs.claims.Driven.{Rises, Below, Named, Facts, Present}
use Rattle.rules.specs.claims.SaveThenRestore.{SaveThenRestore, GoneIsBadSave, RestoreThenSave, NoLonger}
use Rattle.rules.proofs.Tests.{untrue, pass, passed}
use Rattle.rules.proofs.Rows.{first_of_lem}
use Rattle.rules.proofs.Encoded.{state_read}
use Rattle.rules.proofs.Accepted.{clauses}
use Rattle.rules.proofs.RoundTrip.{there_and_back, no_other, longest, most_bytes}
use Rattle.rules.proofs.Shape.{saved_from, saved_length, rises_end}
use Rattle.rules.proofs.Good.{HasNumber, Parents, shape_good}
use Rattle.rules.proofs.Driven.{facts}
use Rattle.rules.proofs.Proper.{proper_parents, every_valid, is_bad_save}

-- ---- the parents

node_in_lem : (ns : List Node) (x : ℕ) → is_none (node_in ns x) ≡ false → HasNumber x (saved_nodes ns)
unfolding node_in saved_nodes HasNumber
node_in_lem [] x h = absurd (true≢false h)
node_in_lem (n ∷ ns) x h = go (eqb n.number x) refl h (node_in_lem ns x)
  where
    go : (b : Bool) → eqb n.number x ≡ b → is_none (cond b (Some n) (node_in ns x)) ≡ false → (is_none (node_in ns x) ≡ false → HasNumber x (saved_nodes ns)) → (n.number ≡ x) ⊎ HasNumber x (saved_nodes ns)
    go true e f k = inl (eqb-true n.number x e)
    go false e f k = inr (k f)

in_node : (ns : List Node) (x : ℕ) → HasNumber x (saved_nodes ns) → is_none (node_in ns x) ≡ false
unfolding node_in saved_nodes HasNumber
in_node [] x h = absurd h
in_node (n ∷ ns) x (inl h) = rw (eq-eqb n.number x h)
in_node (n ∷ ns) x (inr h) = go (eqb n.number x) (in_node ns x h)
  where
    go : (b : Bool) → is_none (node_in ns x) ≡ false → is_none (cond b (Some n) (node_in ns x)) ≡ false
    go true k = refl
    go false k = k

all_parents : (all ns : List Node) → Present all ns → Parents [] (saved_nodes all) (saved_nodes ns)
unfolding Present Parents saved_nodes is_known present
all_parents all [] p = tt
all_parents all (n ∷ ns) p = (go (eqb n.parent root_number) refl p.0, all_parents all ns p.1)
  where
    go : (b : Bool) → eqb n.parent root_number ≡ b → (b || not (is_none (node_in all n.parent))) ≡ true → (eqb n.parent root_number ≡ true) ⊎ HasNumber n.parent (saved_nodes all)
    go true e f = inl e
    go false e f = inr (node_in_lem all n.parent (not-true _ f))

parents_all : (all ns : List Node) → Parents [] (saved_nodes all) (saved_nodes ns) → Present all ns
unfolding Present Parents saved_nodes is_known present
parents_all all [] p = tt
parents_all all (n ∷ ns) p = (⊎_elim (λ h. rw h) (λ h. rw (in_node all n.parent h, or-true)) p.0, parents_all all ns p.1)

-- ---- and fit

pub name_length_lem : (p : List ℕ) → good_name p ≡ true → length p ≤ 255
unfolding good_name
name_length_lem p g = leb-true (length p) 255 (passed _ g).1.0

saved_fit : (low next : ℕ) (es : List SavedNode) → next ≤ top_number → Rises low es next → Below es → Named es → SavedNodesFit es
unfolding Rises Below Named SavedNodesFit
saved_fit low next [] t r b n = tt
saved_fit low next (e ∷ es) t r b n =
    let l = rises_end (e.number + 1) next es r.1 in
    (record { number = omega arith; parent = omega (arith, b.1); name = omega (arith, name_length_lem e.name n.0) }, saved_fit (e.number + 1) next es t r.1 b.2 n.1)

names_to : (es : List SavedNode) → Named es → NamesTo 255 es
unfolding Named NamesTo
names_to [] n = tt
names_to (e ∷ es) n = (name_length_lem e.name n.0, names_to es n.1)

module _ (i : Instance) (f : Facts i) where
  few : length (saved_nodes i.tree.nodes) ≤ 1023
  few = omega (arith, saved_length i.tree.nodes, f.tree.room, f.settings.capacity)

  pub saved_fits : Fits (saved_state i)
  unfolding saved_state
  saved_fits =
      let es = saved_nodes i.tree.nodes in
      record {
        nodes = saved_fit 2 i.tree.next es f.tree.top f.tree.shape.rises f.tree.shape.below f.tree.shape.named;
        options = f.settings.options;
        offset = omega (arith, few, most_bytes es (names_to es f.tree.shape.named));
        count = omega (arith, few);
        next = omega (arith, f.tree.top);
        counter = f.mounts.counter;
      }

  saved_valid : Present i.tree.nodes i.tree.nodes → valid (saved_state i) ≡ true
  unfolding valid saved_state
  saved_valid p =
      let es = saved_nodes i.tree.nodes in
      pass _ (
        le-leb 2 i.tree.next (rises_end 2 i.tree.next es f.tree.shape.rises),
        (
          le-leb i.tree.next top_number f.tree.top,
          (shape_good i.tree.next es f.tree.shape (all_parents i.tree.nodes i.tree.nodes p), tt),
        ),
      )

  accepted_present : accepted (encode (saved_state i)) ≡ true → Present i.tree.nodes i.tree.nodes
  unfolding saved_state
  accepted_present a =
      let v : valid (saved_state i) ≡ true = rw (state_read (saved_state i) saved_fits) at (clauses (encode (saved_state i)) a).1 in
      parents_all i.tree.nodes i.tree.nodes (proper_parents (saved_state i) ((every_valid (saved_state i)).0 v))

-- the theorem: no state is longer than 279,335 bytes
pub no_longer : NoLonger
unfolding saved_state
no_longer i d =
    let f = facts i d in
    longest.most (saved_state i) (few i f) (names_to (saved_nodes i.tree.nodes) f.tree.shape.named)

-- the theorem: what was saved comes back
pub save_then_restore : SaveThenRestore
unfolding restore_state_rule first_of state_restored_to saved_state
save_then_restore i j d p fr mask room =
    let f = facts i d in
    let both = there_and_back (saved_state i) (saved_fits i f) (saved_valid i f p) in
    let ok : accepted (encode (saved_state i)) ≡ true = both.0 in
    let back : state_of (encode (saved_state i)) ≡ saved_state i = both.1 in
    let bits : unknown j.fixed.known (state_of (encode (saved_state i))).options ≡ false = rw (back, mask) f.settings.within in
    let size : ltb j.fixed.capacity (1 + length (state_of (encode (saved_state i))).nodes) ≡ false =
    rw back (le-ltb j.fixed.capacity (1 + length (saved_nodes i.tree.nodes)) (omega (arith, saved_length i.tree.nodes, room))) in
    rw (fr, ok, bits, size, back) (record { done = refl; tree = refl; counter = refl; options = refl })

-- the theorem: where a parent is gone it is BADSAVE
pub gone_is_bad_save : GoneIsBadSave
gone_is_bad_save i j d n fr =
    let b = encode (saved_state i) in
    is_bad_save j b fr (untrue (accepted b) (λ a. n (accepted_present i (facts i d) a)))

-- ---- what was restored is saved again

-- a done restore: the bytes are accepted, and the instance becomes what their state says
pub restore_done : (j : Instance) (b : List ℕ) → (restore_state_rule j b).code ≡ 0 → (accepted b ≡ true) × ((restore_state_rule j b).after ≡ state_restored_to (state_of b) j)
unfolding restore_state_rule
restore_done j b =
    first_of_lem (λ (o : Outcome). o.code ≡ 0 → (accepted b ≡ true) × (o.after ≡ state_restored_to (state_of b) j)) _ _
    (λ a e. absurd (omega arith), λ a. (λ c e. absurd (omega arith), λ c. (λ d e. absurd (omega arith), λ d. (λ g e. absurd (omega arith), λ g e. (not-false _ c, refl)))))

-- the theorem: no other bytes are accepted for it
pub restore_then_save : RestoreThenSave
unfolding saved_state state_restored_to
restore_then_save j b h e =
    let d = restore_done j b e in
    let s = state_of b in
    let ns : saved_nodes (nodes_of_records s.nodes) ≡ s.nodes = saved_from s.nodes in
    ap (λ (i : Instance). encode (saved_state i)) d.1
    ∙ ap encode (λ t. record { nodes = ns t; options = s.options; next = s.next; counter = s.counter })
    ∙ sym (no_other b h d.0).bytes
