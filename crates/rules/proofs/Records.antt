-- Saved nodes by their places: what a good list says of each place and of two, and back. Assumes nothing.
use mathlib.Core.Path.{◌≡◌, refl, sym, ap, ◌∙◌}
use mathlib.Core.Bool.{Bool, true, false, ◌||◌, true≢false, and-false}
use mathlib.Core.Logic.{◌⊎◌, inl, inr, ⊎_elim}
use mathlib.Core.List.{List, [], ◌∷◌}
use Prim.Native.Nat.{ℕ, zero, suc, ◌+◌, ◌≤◌, ◌<◌}
use native.Mathlib.Omega.{arith}
use native.Mathlib.Decide.{ℕ_discrete}
use lib.ListN.{length}
use lib.Dec.{eqb}
use borrow.Author.Tests.{eqb-true, eqb-false, eq-eqb, ne_eqb, leb-true, le-leb, not-true}
use Rattle.rules.specs.Numbers.{root_number, top_number}
use Rattle.rules.specs.Bytes.{holds}
use Rattle.rules.specs.Path.{slash, dot}
use Rattle.rules.specs.Saved.{SavedNode, State, present, used, good_name, good_node, good_nodes}
use Rattle.rules.specs.claims.Driven.{Rises, Below, Named, Unique, Shape}
use Rattle.rules.specs.claims.Proper.{At, Name, Tidy, Earlier}
use Rattle.rules.proofs.Tests.{and_both, or_neither, pass, passed}
use Rattle.rules.proofs.Same.{same_refl, ne_same, same_false}
use Rattle.rules.proofs.Sequences.{every_text}
use Rattle.rules.proofs.Shape.{beside, rises_end}
use Rattle.rules.proofs.Good.{HasNumber, Parents, good_is}

-- ---- names

held_nowhere : (b : ℕ) (p : List ℕ) → holds b p ≡ false → (k : ℕ) → At p k b → ⊥
unfolding holds At
held_nowhere b [] h k a = a
held_nowhere b (x ∷ p) h zero a = eqb-false x b (or_neither (eqb x b) (holds b p) h).0 a
held_nowhere b (x ∷ p) h (suc k) a = held_nowhere b p (or_neither (eqb x b) (holds b p) h).1 k a

nowhere_held : (b : ℕ) (p : List ℕ) → ((k : ℕ) → At p k b → ⊥) → holds b p ≡ false
unfolding holds At
nowhere_held b [] h = refl
nowhere_held b (x ∷ p) h = rw (ne_eqb x b (h 0)) (nowhere_held b p (λ k. h (suc k)))

is_name : (p : List ℕ) → good_name p ≡ true → Name p
unfolding good_name
is_name p g =
    let t = passed _ g in
    record {
      not_empty = leb-true 1 (length p) t.0;
      short = leb-true (length p) 255 t.1.0;
      text = (every_text p).0 t.1.1.1.1.1.0;
      no_slash = held_nowhere slash p (not-true _ t.1.1.0);
      no_dot = same_false p (dot ∷ []) (not-true _ t.1.1.1.0);
      no_dots = same_false p (dot ∷ dot ∷ []) (not-true _ t.1.1.1.1.0);
    }

name_good : (p : List ℕ) → Name p → good_name p ≡ true
unfolding good_name
name_good p n =
    pass _ (
      le-leb 1 (length p) n.not_empty,
      (
        le-leb (length p) 255 n.short,
        (
          rw (nowhere_held slash p n.no_slash),
          (rw (ne_same p (dot ∷ []) n.no_dot), (rw (ne_same p (dot ∷ dot ∷ []) n.no_dots), ((every_text p).1 n.text, tt))),
        ),
      ),
    )

-- ---- from the list to its places

rises_at : (low high : ℕ) (es : List SavedNode) → Rises low es high → (k : ℕ) (e : SavedNode) → At es k e → (low ≤ e.number) × (e.number < high)
unfolding Rises At
rises_at low high [] r k e a = absurd a
rises_at low high (d ∷ es) r zero e a = rw (← a) (r.0, omega (arith, rises_end (d.number + 1) high es r.1))
rises_at low high (d ∷ es) r (suc k) e a =
    let t = rises_at (d.number + 1) high es r.1 k e a in
    (omega (arith, r.0, t.0), t.1)

rises_two : (low high : ℕ) (es : List SavedNode) → Rises low es high → (j k : ℕ) (d e : SavedNode) → j < k → At es j d → At es k e → d.number < e.number
unfolding Rises At
rises_two low high [] r j k d e l a b = absurd a
rises_two low high (c ∷ es) r j zero d e l a b = absurd (omega arith)
rises_two low high (c ∷ es) r zero (suc k) d e l a b = rw (← a) (omega (arith, (rises_at (c.number + 1) high es r.1 k e b).0))
rises_two low high (c ∷ es) r (suc j) (suc k) d e l a b = rises_two (c.number + 1) high es r.1 j k d e (omega arith) a b

named_at : (es : List SavedNode) → Named es → (k : ℕ) (e : SavedNode) → At es k e → Name e.name
unfolding Named At
named_at [] n k e a = absurd a
named_at (d ∷ es) n zero e a = rw (← a) (is_name d.name n.0)
named_at (d ∷ es) n (suc k) e a = named_at es n.1 k e a

unused_at : (d : SavedNode) (es : List SavedNode) → used d.parent d.name es ≡ false → (k : ℕ) (e : SavedNode) → At es k e → d.parent ≡ e.parent → d.name ≡ e.name → ⊥
unfolding used At
unused_at d [] u k e a p q = a
unused_at d (c ∷ es) u zero e a p q =
    let f : beside c d ≡ false = (or_neither (beside c d) (used d.parent d.name es) u).0 in
    true≢false (sym (rw (a, ← p, ← q, eq-eqb d.parent d.parent refl, same_refl d.name)) ∙ f)
unused_at d (c ∷ es) u (suc k) e a p q = unused_at d es (or_neither (beside c d) (used d.parent d.name es) u).1 k e a p q

unique_two : (es : List SavedNode) → Unique es → (j k : ℕ) (d e : SavedNode) → j < k → At es j d → At es k e → d.parent ≡ e.parent → d.name ≡ e.name → ⊥
unfolding Unique At
unique_two [] u j k d e l a b = absurd a
unique_two (c ∷ es) u j zero d e l a b = absurd (omega arith)
unique_two (c ∷ es) u zero (suc k) d e l a b = rw (← a) (unused_at c es u.0 k e b)
unique_two (c ∷ es) u (suc j) (suc k) d e l a b = unique_two es u.1 j k d e (omega arith) a b

pub shape_tidy : (s : State) → s.next ≤ top_number → Shape s.nodes s.next → Tidy s
shape_tidy s t h = record {
  least_next = rises_end 2 s.next s.nodes h.rises;
  most_next = t;
  least = λ k e a. (rises_at 2 s.next s.nodes h.rises k e a).0;
  under = λ k e a. (rises_at 2 s.next s.nodes h.rises k e a).1;
  rises = rises_two 2 s.next s.nodes h.rises;
  named = named_at s.nodes h.named;
  apart = unique_two s.nodes h.unique;
}

-- a parent that is there among those before is 1 or an earlier record's number
pub parents_at_lem : (next : ℕ) (es before : List SavedNode) → good_nodes next before es ≡ true → (k : ℕ) (e : SavedNode) → At es k e → (present e.parent before ≡ true) ⊎ Earlier es k e.parent
unfolding good_nodes present At
parents_at_lem next [] before h k e a = absurd a
parents_at_lem next (d ∷ es) before h zero e a = rw (← a) (inl (good_is next before d (and_both (good_node next before d) (good_nodes next (d ∷ before) es) h).0).parent)
parents_at_lem next (d ∷ es) before h (suc k) e a =
    ⊎_elim (first (eqb d.number e.parent) refl) (λ w. inr (suc w.0, w.1, omega (arith, w.2), w.3, w.4))
    (parents_at_lem next es (d ∷ before) (and_both (good_node next before d) (good_nodes next (d ∷ before) es) h).1 k e a)
  where
    first : (t : Bool) → eqb d.number e.parent ≡ t → (t || present e.parent before) ≡ true → (present e.parent before ≡ true) ⊎ Earlier (d ∷ es) (suc k) e.parent
    first true q p = inr (0, d, omega arith, refl, eqb-true d.number e.parent q)
    first false q p = inl p

-- ---- from the places to the list

pub rises_from : (low high : ℕ) (es : List SavedNode) → low ≤ high → ((k : ℕ) (e : SavedNode) → At es k e → (low ≤ e.number) × (e.number < high))
    → ((j k : ℕ) (d e : SavedNode) → j < k → At es j d → At es k e → d.number < e.number) → Rises low es high
unfolding Rises At
rises_from low high [] l f g = l
rises_from low high (d ∷ es) l f g = (
  (f 0 d refl).0,
  rises_from (d.number + 1) high es (omega (arith, (f 0 d refl).1)) (λ k e a. (omega (arith, g 0 (suc k) d e (omega arith) refl a), (f (suc k) e a).1))
      (λ j k c e m. g (suc j) (suc k) c e (omega arith)),
)

pub below_from : (es : List SavedNode) → ((k : ℕ) (e : SavedNode) → At es k e → (1 ≤ e.parent) × (e.parent < e.number)) → Below es
unfolding Below At
below_from [] f = tt
below_from (d ∷ es) f = ((f 0 d refl).0, (f 0 d refl).1, below_from es (λ k. f (suc k)))

pub named_from : (es : List SavedNode) → ((k : ℕ) (e : SavedNode) → At es k e → Name e.name) → Named es
unfolding Named At
named_from [] f = tt
named_from (d ∷ es) f = (name_good d.name (f 0 d refl), named_from es (λ k. f (suc k)))

not_beside : (c d : SavedNode) → (d.parent ≡ c.parent → d.name ≡ c.name → ⊥) → beside c d ≡ false
not_beside c d f =
    elim (ℕ_discrete c.parent d.parent) [
      | yes q ↦ rw (ne_same c.name d.name (λ p. f (sym q) (sym p)), and-false)
      | no q ↦ rw (ne_eqb c.parent d.parent q)
    ]

unused_from : (d : SavedNode) (es : List SavedNode) → ((k : ℕ) (e : SavedNode) → At es k e → d.parent ≡ e.parent → d.name ≡ e.name → ⊥) → used d.parent d.name es ≡ false
unfolding used At
unused_from d [] f = refl
unused_from d (c ∷ es) f = rw (not_beside c d (f 0 c refl)) (unused_from d es (λ k. f (suc k)))

pub unique_from : (es : List SavedNode) → ((j k : ℕ) (d e : SavedNode) → j < k → At es j d → At es k e → d.parent ≡ e.parent → d.name ≡ e.name → ⊥) → Unique es
unfolding Unique At
unique_from [] f = tt
unique_from (d ∷ es) f = (
  unused_from d es (λ k e. f 0 (suc k) d e (omega arith) refl),
  unique_from es (λ j k c e l. f (suc j) (suc k) c e (omega arith)),
)

pub in_at : (es : List SavedNode) (k : ℕ) (d : SavedNode) → At es k d → HasNumber d.number es
unfolding HasNumber At
in_at [] k d a = a
in_at (c ∷ es) zero d a = inl (ap (λ (e : SavedNode). e.number) a)
in_at (c ∷ es) (suc k) d a = inr (in_at es k d a)

pub parents_from : (all es : List SavedNode) → ((k : ℕ) (e : SavedNode) → At es k e → (e.parent ≡ 1) ⊎ HasNumber e.parent all) → Parents [] all es
unfolding Parents At present
parents_from all [] f = tt
parents_from all (d ∷ es) f = (⊎_elim (λ (q : d.parent ≡ 1). inl (eq-eqb d.parent root_number q)) (λ q. inr q) (f 0 d refl), parents_from all es (λ k. f (suc k)))
