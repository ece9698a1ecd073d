-- Records that are good among those before them have the shape of a driven instance's nodes; and back, where their parents are there. Assumes nothing.
use mathlib.Core.Path.{◌≡◌, refl, ◌∙◌}
use mathlib.Core.Bool.{Bool, true, false, ◌||◌, or-true}
use mathlib.Core.Logic.{◌⊎◌, inl, inr, ⊎_elim}
use mathlib.Core.List.{List, [], ◌∷◌}
use Prim.Native.Nat.{ℕ, ◌+◌, ◌≤◌, ◌<◌}
use native.Mathlib.Omega.{arith}
use lib.Dec.{eqb}
use borrow.Author.Tests.{eqb-true, eq-eqb, not-true, leb-true, ltb-true, lt-ltb}
use Rattle.rules.specs.Numbers.{root_number, top_number}
use Rattle.rules.specs.Saved.{SavedNode, State, last_number, present, used, good_name, good_node, good_nodes, valid}
use Rattle.rules.specs.claims.Driven.{Rises, Below, Named, Unique, Shape}
use Rattle.rules.proofs.Tests.{and_both, or_neither, pass, passed}
use Rattle.rules.proofs.Shape.{Among, among_first, among_more, beside, beside_sym, rises_end}

-- the tests of a good record, one by one
pub record Good (next : ℕ) (before : List SavedNode) (e : SavedNode) : Type 0 where
  pub rises : last_number before < e.number
  pub under : e.number < next
  pub named : good_name e.name ≡ true
  pub parent : present e.parent before ≡ true
  pub alone : used e.parent e.name before ≡ false

pub good_is : (next : ℕ) (before : List SavedNode) (e : SavedNode) → good_node next before e ≡ true → Good next before e
unfolding good_node
good_is next before e h =
    let t = passed _ h in
    record {
      rises = ltb-true (last_number before) e.number t.0;
      under = ltb-true e.number next t.1.0;
      named = t.1.1.0;
      parent = t.1.1.1.0;
      alone = not-true _ t.1.1.1.1.0;
    }

is_good : (next : ℕ) (before : List SavedNode) (e : SavedNode) → Good next before e → good_node next before e ≡ true
unfolding good_node
is_good next before e g =
    pass _ (lt-ltb (last_number before) e.number g.rises, (lt-ltb e.number next g.under, (g.named, (g.parent, (rw g.alone, tt)))))

-- the numbers before are at most the last one's
Falling : List SavedNode → Type 0
Falling before = (x : ℕ) → present x before ≡ true → (1 ≤ x) × (x ≤ last_number before)

falling_more : (before : List SavedNode) (e : SavedNode) → Falling before → last_number before < e.number → Falling (e ∷ before)
unfolding Falling present last_number
falling_more before e f l x = go (eqb e.number x) refl
  where
    go : (b : Bool) → eqb e.number x ≡ b → (b || present x before) ≡ true → (1 ≤ x) × (x ≤ e.number)
    go true q p = (omega (arith, eqb-true e.number x q), omega (arith, eqb-true e.number x q))
    go false q p = ((f x p).0, omega (arith, (f x p).1))

falling_nil : Falling []
unfolding Falling present last_number
falling_nil x p = (omega (arith, eqb-true x root_number p), omega (arith, eqb-true x root_number p))

module _ (next : ℕ) where
  unused_later : (d : SavedNode) (es before : List SavedNode) → Among d before → good_nodes next before es ≡ true → used d.parent d.name es ≡ false
  unfolding used good_nodes Among
  unused_later d [] before a h = refl
  unused_later d (e ∷ es) before a h =
      let t = and_both (good_node next before e) (good_nodes next (e ∷ before) es) h in
      let g = good_is next before e t.0 in
      rw (beside_sym e d ∙ a e.parent e.name g.alone) (unused_later d es (e ∷ before) (among_more d e before a) t.1)

  record Rest (low : ℕ) (es : List SavedNode) : Type 0 where
    rises : Rises low es next
    below : Below es
    named : Named es
    unique : Unique es

  good_rest : (es before : List SavedNode) → Falling before → good_nodes next before es ≡ true → last_number before < next → Rest (last_number before + 1) es
  unfolding good_nodes Rises Below Named Unique last_number Falling
  good_rest [] before f h l = record { rises = omega arith; below = tt; named = tt; unique = tt }
  good_rest (e ∷ es) before f h l =
      let t = and_both (good_node next before e) (good_nodes next (e ∷ before) es) h in
      let g = good_is next before e t.0 in
      let k = f e.parent g.parent in
      let r = good_rest es (e ∷ before) (falling_more before e f g.rises) t.1 g.under in
      record {
        rises = (omega (arith, g.rises), r.rises);
        below = (k.0, omega (arith, k.1, g.rises), r.below);
        named = (g.named, r.named);
        unique = (unused_later e es (e ∷ before) (among_first e before) t.1, r.unique);
      }

good_shape : (next : ℕ) (es : List SavedNode) → 2 ≤ next → good_nodes next [] es ≡ true → Shape es next
unfolding last_number
good_shape next es l h =
    let r = good_rest next es [] falling_nil h (omega arith) in
    record { rises = r.rises; below = r.below; named = r.named; unique = r.unique }

-- what a valid state is, all but the parents
pub valid_shape : (s : State) → valid s ≡ true → (2 ≤ s.next) × (s.next ≤ top_number) × Shape s.nodes s.next
unfolding valid
valid_shape s v =
    let t = passed _ v in
    let low = leb-true 2 s.next t.0 in
    (low, leb-true s.next top_number t.1.0, good_shape s.next s.nodes low t.1.1.0)

-- ---- the parents of those left are before, or among those left

unfoldable pub HasNumber : ℕ → List SavedNode → Type 0
HasNumber x [] = ⊥
HasNumber x (e ∷ es) = (e.number ≡ x) ⊎ HasNumber x es

unfoldable pub Parents : List SavedNode → List SavedNode → List SavedNode → Type 0
Parents before left [] = Unit {0}
Parents before left (e ∷ es) = ((present e.parent before ≡ true) ⊎ HasNumber e.parent left) × Parents before left es

in_above : (low high x : ℕ) (es : List SavedNode) → Rises low es high → HasNumber x es → low ≤ x
unfolding HasNumber Rises
in_above low high x [] r h = absurd h
in_above low high x (e ∷ es) r (inl h) = omega (arith, r.0)
in_above low high x (e ∷ es) r (inr h) = omega (arith, r.0, in_above (e.number + 1) high x es r.1 h)

present_more : (x : ℕ) (e : SavedNode) (before : List SavedNode) → present x before ≡ true → present x (e ∷ before) ≡ true
unfolding present
present_more x e before h = rw (h, or-true)

present_first : (x : ℕ) (e : SavedNode) (before : List SavedNode) → e.number ≡ x → present x (e ∷ before) ≡ true
unfolding present
present_first x e before h = rw (eq-eqb e.number x h)

parents_on : (e : SavedNode) (before left es : List SavedNode) → Parents before (e ∷ left) es → Parents (e ∷ before) left es
unfolding Parents HasNumber
parents_on e before left [] p = tt
parents_on e before left (d ∷ es) p = (
  ⊎_elim (λ h. inl (present_more d.parent e before h)) (λ (h : (e.number ≡ d.parent) ⊎ HasNumber d.parent left). ⊎_elim (λ q. inl (present_first d.parent e before q)) (λ q. inr q) h) p.0,
  parents_on e before left es p.1,
)

-- ---- the names of those left are not used before

unfoldable Unused : List SavedNode → List SavedNode → Type 0
Unused before [] = Unit {0}
Unused before (e ∷ es) = (used e.parent e.name before ≡ false) × Unused before es

unused_on : (e : SavedNode) (before es : List SavedNode) → Unused before es → used e.parent e.name es ≡ false → Unused (e ∷ before) es
unfolding Unused used
unused_on e before [] u h = tt
unused_on e before (d ∷ es) u h =
    let o = or_neither (beside d e) (used e.parent e.name es) h in
    (rw (beside_sym e d ∙ o.0) u.0, unused_on e before es u.1 o.1)

-- ---- so they are good

left_good : (next : ℕ) (es before : List SavedNode) → Rises (last_number before + 1) es next → Below es → Named es → Unique es → Unused before es → Parents before es es
    → good_nodes next before es ≡ true
unfolding good_nodes Rises Below Named Unique Unused Parents last_number
left_good next [] before r b n u v p = refl
left_good next (e ∷ es) before r b n u v p =
    let here : present e.parent before ≡ true =
    ⊎_elim (λ h. h) (λ h. absurd (omega (arith, b.1, in_above e.number next e.parent (e ∷ es) (omega arith, r.1) h))) p.0 in
    let g : Good next before e = record {
      rises = omega (arith, r.0);
      under = omega (arith, rises_end (e.number + 1) next es r.1);
      named = n.0;
      parent = here;
      alone = v.0;
    } in
    rw (is_good next before e g)
    (left_good next es (e ∷ before) r.1 b.2 n.1 u.1 (unused_on e before es v.1 u.0) (parents_on e before es es p.1))

none_unused : (es : List SavedNode) → Unused [] es
unfolding Unused used
none_unused [] = tt
none_unused (e ∷ es) = (refl, none_unused es)

-- records of that shape, each with its parent among them
pub shape_good : (next : ℕ) (es : List SavedNode) → Shape es next → Parents [] es es → good_nodes next [] es ≡ true
unfolding last_number
shape_good next es s p = left_good next es [] s.rises s.below s.named s.unique (none_unused es) p
