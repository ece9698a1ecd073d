-- Stepping from place to place with the next component gives the components of the path. Assumes nothing.
use mathlib.Core.Path.{◌≡◌, refl, ap, sym, ◌∙◌, subst}
use mathlib.Core.Bool.{Bool, true, false, cond}
use mathlib.Core.List.{List, [], ◌∷◌}
use Prim.Native.Nat.{ℕ, zero, suc, ◌+◌, ◌-◌, ◌≤◌, ◌<◌}
use native.Mathlib.Nat.{add-zero}
use native.Mathlib.Decide.{dec_lt}
use native.Mathlib.Omega.{arith}
use lib.ListN.{length, get_or, take, drop, drop_of_length-le, length-drop}
use lib.Seq.{drop-drop, length-take-le}
use lib.Dec.{eqb}
use Rattle.rules.specs.Bytes.{same}
use Rattle.rules.specs.Path.{slash, dot, is_dot, is_dots, Part, Normal, ParentDir, onto, parts_by, pieces, sorted, kept_parts, components}
use Rattle.rules.proofs.Same.{some_byte, same_eq, same_length}
use Rattle.path.specs.declared.components.Component.{Component}
use Rattle.path.specs.declared.components.Component.TheVariants.{Normal as NormalStep, ParentDir as ParentDirStep}
use Rattle.std.proofs.lemmas.Option.{none-some}
use Rattle.std.specs.Prelude.{Option, None, Some}
use Rattle.path.specs.Steps.{part, between, first_component, next_component, on_step, stepped_parts, StepsOver, ComponentStep, EveryStep, SteppedAll}
use Rattle.path.proofs.Places.{here, between_length}
use Rattle.path.proofs.Words.{part_nil, part_cons, part_le, end_here, end_length, behind, first_part, word_length, word_end}

-- ---- the components: what the first part is, and those from its end on

rest_kept : (k : ℕ) (s : List ℕ) → kept_parts (k + 1) (behind slash (drop (word_length s) s)) ≡ components k (drop (word_length s) s)
unfolding components sorted kept_parts parts_by same
rest_kept k [] = rw (part_nil slash)
rest_kept k (b ∷ s) = rw (part_cons slash b s) (go (eqb b slash) refl (rest_kept k s))
  where
    go : (t : Bool) → eqb b slash ≡ t → kept_parts (k + 1) (behind slash (drop (word_length s) s)) ≡ components k (drop (word_length s) s)
        → kept_parts (k + 1) (behind slash (drop (cond t 0 (suc (word_length s))) (b ∷ s))) ≡ components k (drop (cond t 0 (suc (word_length s))) (b ∷ s))
    go true q e = rw (q, add-zero)
    go false q e = e

first_sorted : (at : ℕ) (s : List ℕ) → components at s ≡ sorted at (take (word_length s) s) (components (at + word_length s) (drop (word_length s) s))
unfolding components kept_parts
first_sorted at s =
    let e = length-take-le (word_length s) s (part_le slash s) in
    rw (first_part slash s, e) (ap (sorted at (take (word_length s) s)) (rest_kept (at + word_length s) s))

module _ (s : List ℕ) (at : ℕ) where
  -- the part that stands at a place
  abbrev pub word : List ℕ
  word = part s at (word_length (drop at s))

  word_length_lem : length word ≡ word_length (drop at s)
  word_length_lem = length-take-le (word_length (drop at s)) (drop at s) (part_le slash (drop at s))

  word_between : {end : ℕ} → end ≡ word_end s at → between s at end ≡ word
  word_between e = rw (e, end_length slash s at)

  -- the components from its end on
  abbrev after : List Part
  after = components (at + word_length (drop at s)) (drop (at + word_length (drop at s)) s)

  part_first : components at (drop at s) ≡ sorted at word after
  part_first = rw (← drop-drop (word_length (drop at s)) at s) (first_sorted at (drop at s))

  slash_first : at < length s → word_length (drop at s) ≡ 0 → components at (drop at s) ≡ components (at + 1) (drop (at + 1) s)
  unfolding components sorted kept_parts parts_by same
  slash_first h e = rw (here s at h) (go (eqb (get_or s at 0) slash) refl (sym (part_cons slash (get_or s at 0) (drop (at + 1) s)) ∙ rw (here s at h) at e))
    where
      go : (t : Bool) → eqb (get_or s at 0) slash ≡ t → cond t 0 (suc (word_length (drop (at + 1) s))) ≡ 0
          → kept_parts at (cond t ([] ∷ pieces (drop (at + 1) s)) (onto (get_or s at 0) (pieces (drop (at + 1) s)))) ≡ kept_parts (at + 1) (pieces (drop (at + 1) s))
      go true q z = rw add-zero
      go false q z = absurd (omega arith)

-- ---- what a part is

pub data Sort (w : List ℕ) : Type 0 where
  empty : w ≡ [] → Sort w
  single : w ≡ dot ∷ [] → Sort w
  double : w ≡ dot ∷ dot ∷ [] → Sort w
  plain : 0 < length w → ((at : ℕ) (ps : List Part) → sorted at w ps ≡ Normal at w ∷ ps) → Sort w

sort : (w : List ℕ) → Sort w
unfolding sorted
sort w = go (same w []) (is_dot w) (is_dots w) refl refl refl
  where
    go : (x y z : Bool) → same w [] ≡ x → is_dot w ≡ y → is_dots w ≡ z → Sort w
    go true y z a b c = empty (same_eq w [] a)
    go false true z a b c = single (same_eq w (dot ∷ []) b)
    go false false true a b c = double (same_eq w (dot ∷ dot ∷ []) c)
    go false false false a b c = plain (some_byte w a) (λ (at : ℕ) (ps : List Part). rw (a, b, c))

-- ---- the tests of the code on the part from one place to another

module _ (s : List ℕ) (at end : ℕ) (h : (at < end) × (end ≤ length s)) where
  bytes : length (between s at end) ≡ end - at
  bytes = between_length s at end (omega arith) h.1

  pub is_single : is_dot (between s at end) ≡ true → None ≡ first_component (sorted at (between s at end) [])
  unfolding first_component sorted same
  is_single e = rw (same_eq (between s at end) (dot ∷ []) e)

  pub is_double : is_dots (between s at end) ≡ true → Some (ParentDirStep at end) ≡ first_component (sorted at (between s at end) [])
  unfolding first_component sorted same
  is_double e =
      let q = same_eq (between s at end) (dot ∷ dot ∷ []) e in
      let n : end ≡ at + 2 = omega (arith, bytes, ap length q) in
      rw q (ap (λ (e : ℕ). Some (ParentDirStep at e)) n)

  pub is_plain : is_dot (between s at end) ≡ false → is_dots (between s at end) ≡ false → Some (NormalStep at (end - at) end) ≡ first_component (sorted at (between s at end) [])
  unfolding first_component sorted
  is_plain x y =
      let z : same (between s at end) [] ≡ false = same_length (between s at end) [] (λ e. omega (arith, bytes)) in
      let m : at + (end - at) ≡ end = omega arith in
      rw (z, x, y, bytes, m)

-- ---- one turn of the code: from the place i, by the part that stands there

module _ (s : List ℕ) (i : ℕ) (h : i < length s) where
  dropped : first_component (sorted i (word s i) []) ≡ None → components i (drop i s) ≡ components (i + 1) (drop (i + 1) s)
  unfolding first_component sorted same
  dropped e = go (sort (word s i))
    where
      go : Sort (word s i) → components i (drop i s) ≡ components (i + 1) (drop (i + 1) s)
      go (empty q) = slash_first s i h (sym (word_length_lem s i) ∙ ap length q)
      go (single q) =
          let n : word_length (drop i s) ≡ 1 = sym (word_length_lem s i) ∙ ap length q in
          part_first s i ∙ rw (q, n)
      go (double q) = absurd (none-some _ (sym (rw q at e)))
      go (plain l p) = absurd (none-some _ (sym (rw (p i []) at e)))

  found : (first_component (sorted i (word s i) []) ≡ None → ⊥) → next_component s i ≡ first_component (sorted i (word s i) [])
  unfolding next_component first_component sorted same
  found e = rw (part_first s i) (go (sort (word s i)))
    where
      go : Sort (word s i) → first_component (sorted i (word s i) (after s i)) ≡ first_component (sorted i (word s i) [])
      go (empty q) = absurd (e (rw q))
      go (single q) = absurd (e (rw q))
      go (double q) = rw q
      go (plain l p) = rw (p i (after s i), p i [])

  module _ {end : ℕ} {c : Option Component} (w : end ≡ word_end s i) (k : c ≡ first_component (sorted i (between s i end) [])) where
    told : c ≡ first_component (sorted i (word s i) [])
    told = k ∙ ap (λ (p : List ℕ). first_component (sorted i p [])) (word_between s i w)

    pub next_dropped : c ≡ None → next_component s i ≡ next_component s (i + 1)
    unfolding next_component
    next_dropped e = ap first_component (dropped (sym told ∙ e))

    pub next_kept : {q : Component} → c ≡ Some q → next_component s i ≡ Some q
    next_kept {q} e = found (λ z. none-some q (sym (told ∙ z) ∙ e)) ∙ sym told ∙ e

pub next_slash : (s : List ℕ) (i : ℕ) → i < length s → get_or s i 0 ≡ slash → next_component s i ≡ next_component s (i + 1)
unfolding next_component
next_slash s i h e =
    let z : word_length (drop i s) ≡ 0 = omega (arith, end_here slash s i h e, end_length slash s i) in
    ap first_component (slash_first s i h z)

pub next_end : (s : List ℕ) (i : ℕ) → length s ≤ i → next_component s i ≡ None
unfolding next_component first_component components kept_parts sorted parts_by same
next_end s i h = rw (drop_of_length-le s h)

-- ---- the theorem: each answer is a step along the components

-- a step from one place is a step from the place before it, where nothing but dropped bytes stands between
earlier : (s : List ℕ) (at : ℕ) (p : Part) (start n next : ℕ) → components at (drop at s) ≡ components (at + 1) (drop (at + 1) s) → StepsOver s (at + 1) p start n next → StepsOver s at p start n next
earlier s at p start n next e g = record { parts = e ∙ g.parts; from = omega arith; some = g.some; end = g.end; further = omega arith; within = g.within }

step_earlier : (s : List ℕ) (at : ℕ) (r : Option Component) → components at (drop at s) ≡ components (at + 1) (drop (at + 1) s) → ComponentStep s (at + 1) r → ComponentStep s at r
step_earlier s at None e g = e ∙ g
step_earlier s at (Some (ParentDirStep start next)) e g = earlier s at (ParentDir start) start 2 next e g
step_earlier s at (Some (NormalStep start n next)) e g = earlier s at (Normal start (part s start n)) start n next e g

module _ (s : List ℕ) (at : ℕ) (h : at < length s) where
  step_here : ComponentStep s (at + 1) (next_component s (at + 1)) → ComponentStep s at (next_component s at)
  unfolding next_component first_component sorted same
  step_here g = go (sort (word s at))
    where
      fits : at + word_length (drop at s) ≤ length s
      fits = omega (arith, part_le slash (drop at s), length-drop at s)

      by : (ps : List Part) → components at (drop at s) ≡ ps → ComponentStep s at (first_component ps) → ComponentStep s at (next_component s at)
      by ps e p = subst (λ (ps : List Part). ComponentStep s at (first_component ps)) (sym e) p

      skip : components at (drop at s) ≡ components (at + 1) (drop (at + 1) s) → ComponentStep s at (next_component s at)
      skip e = by (components (at + 1) (drop (at + 1) s)) e (step_earlier s at (next_component s (at + 1)) e g)

      go : Sort (word s at) → ComponentStep s at (next_component s at)
      go (empty q) = skip (dropped s at h (rw q))
      go (single q) = skip (dropped s at h (rw q))
      go (double q) =
          let n : word_length (drop at s) ≡ 2 = sym (word_length_lem s at) ∙ ap length q in
          let e : components at (drop at s) ≡ ParentDir at ∷ components (at + 2) (drop (at + 2) s) = part_first s at ∙ rw (q, n) in
          by (ParentDir at ∷ components (at + 2) (drop (at + 2) s)) e (record { parts = e; from = omega arith; some = omega arith; end = refl; further = omega arith; within = omega (arith, fits) })
      go (plain l p) =
          let e : components at (drop at s) ≡ Normal at (word s at) ∷ after s at = part_first s at ∙ p at (after s at) in
          let n = word_length_lem s at in
          by (Normal at (word s at) ∷ after s at) e
          (rw n (record { parts = e; from = omega arith; some = omega arith; end = refl; further = omega arith; within = fits }))

steps_by : (k : ℕ) (s : List ℕ) (at : ℕ) → length s ≤ at + k → ComponentStep s at (next_component s at)
unfolding components kept_parts parts_by sorted same
steps_by zero s at h =
    let l : length s ≤ at = omega arith in
    rw (next_end s at l, drop_of_length-le s l)
steps_by (suc k) s at h = go (dec_lt at (length s)) (steps_by k s (at + 1) (omega arith))
  where
    go : Dec (at < length s) → ComponentStep s (at + 1) (next_component s (at + 1)) → ComponentStep s at (next_component s at)
    go (yes l) p = step_here s at l p
    go (no l) p =
        let m : length s ≤ at = omega arith in
        rw (next_end s at m, drop_of_length-le s m)

pub steps : EveryStep
steps s at = steps_by (length s) s at (omega arith)

-- the same of an answer of the code, known by its variant
pub step_of : (s : List ℕ) (at : ℕ) {r q : Option Component} → r ≡ next_component s at → r ≡ q → ComponentStep s at q
step_of s at e f = subst (ComponentStep s at) (sym e ∙ f) (steps s at)

-- ---- the theorem: stepping through a path yields its components

stepped_from : (k : ℕ) (s : List ℕ) (at : ℕ) → length s < at + k → stepped_parts k s at ≡ components at (drop at s)
unfolding components kept_parts parts_by sorted same
stepped_from zero s at h = let l : length s ≤ at = omega arith in rw (drop_of_length-le s l)
stepped_from (suc k) s at h = go (next_component s at) (steps s at) (λ (next : ℕ) (l : at < next). stepped_from k s next (omega arith))
  where
    go : (r : Option Component) → ComponentStep s at r → ((next : ℕ) → at < next → stepped_parts k s next ≡ components next (drop next s)) → on_step r s (λ (next : ℕ). stepped_parts k s next) ≡ components at (drop at s)
    go None p ih = sym p
    go (Some (ParentDirStep start next)) p ih = rw (ih next p.further) (sym p.parts)
    go (Some (NormalStep start n next)) p ih = rw (ih next p.further) (sym p.parts)

pub stepped_all : SteppedAll
stepped_all s = stepped_from (suc (length s)) s 0 (omega arith)
