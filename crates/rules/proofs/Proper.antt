-- Bytes are accepted exactly if they spell a proper state, said by places. Assumes nothing.
use mathlib.Core.Path.{◌≡◌, sym, ap, ◌∙◌, subst}
use mathlib.Core.Bool.{true, false, true≢false}
use mathlib.Core.Logic.{inl, inr, ⊎_elim}
use mathlib.Core.List.{List, []}
use Prim.Native.Nat.{ℕ, ◌≤◌, ◌<◌}
use native.Mathlib.Omega.{arith}
use borrow.Author.Tests.{eqb-true, le-leb}
use Rattle.rules.specs.Numbers.{root_number, top_number, BADSAVE}
use Rattle.rules.specs.Instance.{Instance}
use Rattle.rules.specs.Outcome.{Outcome, refused, first_of}
use Rattle.rules.specs.Saved.{SavedNode, State, present, valid, accepted, state_of}
use Rattle.rules.specs.StateRestore.{saved_state, fresh, restore_state_rule}
use Rattle.rules.specs.claims.Driven.{Shape}
use Rattle.rules.specs.claims.Proper.{At, Tidy, Earlier, Proper, EveryValid, EveryAccepted, EveryBadSave, EveryTidy}
use Rattle.rules.proofs.Tests.{untrue, pass, passed}
use Rattle.rules.proofs.Rows.{first_of_lem}
use Rattle.rules.proofs.RoundTrip.{there_and_back, no_other}
use Rattle.rules.proofs.Good.{HasNumber, Parents, valid_shape, shape_good}
use Rattle.rules.proofs.Driven.{facts}
use Rattle.rules.proofs.Records.{shape_tidy, parents_at_lem, rises_from, below_from, named_from, unique_from, in_at, parents_from}

-- ---- states

valid_proper : (s : State) → valid s ≡ true → Proper s
unfolding valid present
valid_proper s v =
    let h = valid_shape s v in
    let good = (passed _ v).1.1.0 in
    record {
      tidy = shape_tidy s h.1 h.2;
      parents = λ k e a. ⊎_elim (λ p. inl (eqb-true e.parent root_number p)) (λ w. inr w) (parents_at_lem s.next s.nodes [] good k e a);
    }

module _ (s : State) (p : Proper s) where
  abbrev es : List SavedNode
  es = s.nodes

  abbrev t : Tidy s
  t = p.tidy

  -- a parent's number is from 1 up and below the record's
  parent_below : (k : ℕ) (e : SavedNode) → At es k e → (1 ≤ e.parent) × (e.parent < e.number)
  parent_below k e a =
      ⊎_elim (λ (q : e.parent ≡ 1). (omega arith, omega (arith, t.least k e a)))
      (λ (w : Earlier es k e.parent). (omega (arith, t.least w.0 w.1 w.3, w.4), omega (arith, t.rises w.0 k w.1 e w.2 w.3 a, w.4)))
      (p.parents k e a)

  proper_shape : Shape es s.next
  proper_shape = record {
    rises = rises_from 2 s.next es t.least_next (λ k e a. (t.least k e a, t.under k e a)) t.rises;
    below = below_from es parent_below;
    named = named_from es t.named;
    unique = unique_from es t.apart;
  }

  pub proper_parents : Parents [] es es
  proper_parents =
      parents_from es es (λ k e a.
      ⊎_elim (λ q. inl q) (λ (w : Earlier es k e.parent). inr (subst (λ (x : ℕ). HasNumber x es) w.4 (in_at es w.0 w.1 w.3))) (p.parents k e a))

  proper_valid : valid s ≡ true
  unfolding valid
  proper_valid =
      pass _ (le-leb 2 s.next t.least_next, (le-leb s.next top_number t.most_next, (shape_good s.next es proper_shape proper_parents, tt)))

-- the theorem: which states are valid
pub every_valid : EveryValid
every_valid s = (valid_proper s, proper_valid s)

-- the theorem: what a driven instance saves
pub every_tidy : EveryTidy
unfolding saved_state
every_tidy i d =
    let f = facts i d in
    shape_tidy (saved_state i) f.tree.top f.tree.shape

-- ---- bytes

-- the theorem: which bytes are accepted
pub every_accepted : EveryAccepted
every_accepted b h = (
  λ a.
      let o = no_other b h a in
      (state_of b, record { bytes = o.bytes; fits = o.fits; proper = (every_valid (state_of b)).0 o.good }),
  λ w.
      let s = w.1 in
      rw s.bytes (there_and_back w.0 s.fits ((every_valid w.0).1 s.proper)).0,
)

-- what a fresh instance answers where bytes are not accepted
pub is_bad_save : (i : Instance) (b : List ℕ) → fresh i ≡ true → accepted b ≡ false → restore_state_rule i b ≡ refused BADSAVE i
unfolding restore_state_rule first_of
is_bad_save i b f e = rw (f, e)

-- where they are, the answer is another
no_bad_save : (i : Instance) (b : List ℕ) → accepted b ≡ true → (restore_state_rule i b).code ≡ BADSAVE → ⊥
unfolding restore_state_rule
no_bad_save i b a =
    first_of_lem (λ (o : Outcome). o.code ≡ BADSAVE → ⊥) _ _
    (λ x e. omega arith, λ x. (λ y. absurd (true≢false (sym y ∙ rw a)), λ y. (λ z e. omega arith, λ z. (λ w e. omega arith, λ w e. omega arith))))

-- the theorem: which are refused
pub every_bad_save : EveryBadSave
every_bad_save i b f h = (
  λ e s w. no_bad_save i b ((every_accepted b h).1 (s, w)) e,
  λ n.
      ap (λ (o : Outcome). o.code)
      (is_bad_save i b f (untrue (accepted b) (λ a. let w = (every_accepted b h).0 a in n w.0 w.1))),
)
