-- A kept number leads into its own mount or nowhere until a call gives its index away, and there as long as its mount stands. Assumes nothing.
use mathlib.Core.Path.{◌≡◌, refl, sym, ap, ◌∙◌, subst}
use mathlib.Core.Bool.{Bool, true, false, cond}
use mathlib.Core.Logic.{◌⊎◌, inl, inr, ⊎_elim}
use mathlib.Core.List.{List, [], ◌∷◌}
use Rattle.std.specs.Prelude.{Option, None, Some}
use Rattle.std.proofs.lemmas.Option.{none-some}
use Prim.Native.Nat.{ℕ, ◌≤◌, ◌<◌}
use native.Mathlib.Omega.{arith}
use borrow.Author.Tests.{ne_eqb}
use Rattle.rules.specs.Numbers.{before, index_of, number_of, NOENT}
use Rattle.rules.specs.Round.{allocate}
use Rattle.rules.specs.Instance.{Slot, Instance, counter_of, empty_slot, slot_of, tag_in_slot, tag_of}
use Rattle.rules.specs.Outcome.{refused, says, to_backend}
use Rattle.rules.specs.Mount.{Request, allocation}
use Rattle.rules.specs.Lookup.{route_tag, route_rule}
use Rattle.rules.specs.Calls.{Call, mount, ask, route, rule}
use Rattle.rules.specs.claims.Laps.{SearchStep, Going, total, last_found, Has}
use Rattle.rules.specs.claims.Trace.{WithoutStateRestore, after_all, steps_of}
use Rattle.rules.specs.claims.Kept.{named, named_in, indexes_handed_out, Ungiven, LeadsTo, MountedAt, EveryNew, EveryStanding, EveryGone, EveryOwn, EveryKept, EveryJudged}
use Rattle.rules.proofs.Allocation.{found_bounds}
use Rattle.rules.proofs.Laps.{last_of}
use Rattle.rules.proofs.Turn.{mounts_allocate}
use Rattle.rules.proofs.Trace.{searches, steps_going, low_after, laps_from}
use Rattle.rules.proofs.Gone.{gone_slot}
use Rattle.rules.proofs.Given.{ungiven_slot, standing_slot}

-- ---- lists of indexes

-- one stands before others, or among them
pub has_first : (x : Option ℕ) (j : ℕ) (ks : List ℕ) → x ≡ Some j → Has j (before x ks)
has_first None j ks e = absurd (none-some j e)
has_first (Some k) j ks e = let s : k ≡ j = cc in inl s

pub has_later : (x : Option ℕ) (j : ℕ) (ks : List ℕ) → Has j ks → Has j (before x ks)
has_later None j ks h = h
has_later (Some k) j ks h = inr h

has_split : (x : Option ℕ) (j : ℕ) (ks : List ℕ) → Has j (before x ks) → (x ≡ Some j) ⊎ Has j ks
has_split None j ks h = inr h
has_split (Some k) j ks (inl e) = inl (ap {B = Option ℕ} Some e)
has_split (Some k) j ks (inr h) = inr h

-- an index that is neither handed out nor named is not given away
ungiven : (cs : List Call) (i : Instance) (k : ℕ) → (Has k (indexes_handed_out (steps_of i cs)) → ⊥) → (Has k (named_in cs) → ⊥) → Ungiven k i cs
unfolding steps_of indexes_handed_out named_in Ungiven
ungiven [] i k h n = tt
ungiven (c ∷ cs) i k h n = (
  λ g. ⊎_elim (λ e. h (has_first (rule i c).found k _ e)) (λ e. n (has_first (named c) k _ e)) g.1,
  ungiven cs (rule i c).after k (λ w. h (has_later (rule i c).found k _ w)) (λ w. n (has_later (named c) k _ w)),
)

-- ---- where a number leads

-- by what stands in the slot of its index
pub by_tag : (i : Instance) (x : ℕ) → 0 < index_of x → rule i (ask (route x)) ≡ route_tag i (index_of x) (number_of x) (tag_of i (index_of x))
unfolding rule route_rule
by_tag i x p = rw (ne_eqb (index_of x) 0 (λ z. omega arith))

pub leads_on : (i : Instance) (x t : ℕ) → 0 < index_of x → tag_of i (index_of x) ≡ Some t → rule i (ask (route x)) ≡ says (to_backend t (index_of x) (number_of x)) i
unfolding route_tag
leads_on i x t p e = by_tag i x p ∙ ap (route_tag i (index_of x) (number_of x)) e

pub leads_off : (i : Instance) (x : ℕ) → 0 < index_of x → tag_of i (index_of x) ≡ None → rule i (ask (route x)) ≡ refused NOENT i
unfolding route_tag
leads_off i x p e = by_tag i x p ∙ ap (route_tag i (index_of x) (number_of x)) e

leads : (i : Instance) (x t : ℕ) → 0 < index_of x → (tag_of i (index_of x) ≡ Some t) ⊎ (tag_of i (index_of x) ≡ None) → LeadsTo i x t
leads i x t p = ⊎_elim (λ a. inr (leads_on i x t p a)) (λ a. inl (leads_off i x p a))

-- the index that a done mount handed out, and the tag in its slot
mounted_tag : (i : Instance) (r : Request) (k : ℕ) → MountedAt i r k → (0 < k) × (tag_of (rule i (mount r)).after k ≡ Some r.tag)
unfolding rule allocation
mounted_tag i r k m =
    let b = found_bounds i m.counter k (sym (searches i (mount r) k m.found).0.1 ∙ m.found) in
    let a = (mounts_allocate i r).answers m.done in
    let same : a.0 ≡ k = let e = sym a.1.found ∙ m.found in cc in
    (b.0, subst (λ (j : ℕ). tag_of (rule i (mount r)).after j ≡ Some r.tag) same (a.1.holds (omega (arith, m.slots, b.1))))

pub least_index : (i : Instance) (r : Request) (k : ℕ) → MountedAt i r k → 0 < k
least_index i r k m = (mounted_tag i r k m).0

-- the tag in the slot of an index that no call gave away
tag_since : (cs : List Call) (i : Instance) (k t : ℕ) → Ungiven k i cs → tag_of i k ≡ Some t → (tag_of (after_all i cs) k ≡ Some t) ⊎ (tag_of (after_all i cs) k ≡ None)
tag_since cs i k t u e =
    ⊎_elim (λ (s : slot_of (after_all i cs) k ≡ slot_of i k). inl (ap tag_in_slot s ∙ e)) (λ (s : slot_of (after_all i cs) k ≡ empty_slot). inr (ap tag_in_slot s)) (ungiven_slot cs i k u)

-- the theorem: at once
pub every_new : EveryNew
every_new i r k m x e =
    let t = mounted_tag i r k m in
    let a = (rule i (mount r)).after in
    leads_on a x r.tag (omega (arith, t.0)) (ap (tag_of a) e ∙ t.1)

-- the theorem: once it is taken off
pub every_gone : EveryGone
unfolding Ungiven after_all
every_gone i c x p z o cs u =
    let k = index_of x in
    let a = (rule i c).after in
    let empty : tag_of a k ≡ None = ap tag_in_slot (gone_slot i k c z o u.0) in
    leads_off (after_all a cs) x p
    (⊎_elim (λ (s : slot_of (after_all a cs) k ≡ slot_of a k). ap tag_in_slot s ∙ empty) (λ (s : slot_of (after_all a cs) k ≡ empty_slot). ap tag_in_slot s) (ungiven_slot cs a k u.1))

-- the theorem: until its index is given away
pub every_own : EveryOwn
every_own i r k m cs u x e =
    let a = (rule i (mount r)).after in
    let t = mounted_tag i r k m in
    leads (after_all a cs) x r.tag (omega (arith, t.0)) (subst (λ (j : ℕ). (tag_of (after_all a cs) j ≡ Some r.tag) ⊎ (tag_of (after_all a cs) j ≡ None)) (sym e) (tag_since cs a k r.tag u t.1))

-- the tag that a route tells is in the slot
told_tag : (i : Instance) (k n t : ℕ) (y : Option ℕ) → (route_tag i k n y).answer ≡ to_backend t k n → y ≡ Some t
unfolding route_tag
told_tag i k n t None e = let z : ◌≡◌ {A = ℕ} 0 1 = cc in absurd (omega arith)
told_tag i k n t (Some u) e = let s : u ≡ t = cc in ap {B = Option ℕ} Some s

led_tag : (i : Instance) (x t : ℕ) → 0 < index_of x → (rule i (ask (route x))).answer ≡ to_backend t (index_of x) (number_of x) → tag_of i (index_of x) ≡ Some t
led_tag i x t p led = told_tag i (index_of x) (number_of x) t (tag_of i (index_of x)) (sym (λ j. (by_tag i x p j).answer) ∙ led)

-- a slot with a tag is held
tag_held : (s : Slot) (t : ℕ) → tag_in_slot s ≡ Some t → s.held ≡ true
tag_held s t e = go s.held e
  where
    go : (b : Bool) → cond b (Some s.tag) None ≡ Some t → b ≡ true
    go true q = refl
    go false q = absurd (none-some t q)

-- the theorem: as long as its mount stands
pub every_standing : EveryStanding
every_standing i x t p led cs s =
    let tag = led_tag i x t p led in
    leads_on (after_all i cs) x t p (ap tag_in_slot (standing_slot cs i (index_of x) s (tag_held (slot_of i (index_of x)) t tag)) ∙ tag)

-- the theorem: a number that led somewhere, until its index is given away
pub judged : EveryJudged
judged i x t p led cs u done =
    let k = index_of x in
    ⊎_elim (λ (e : rule (after_all i cs) (ask (route x)) ≡ refused NOENT (after_all i cs)). absurd (let w : NOENT ≡ 0 = sym (λ j. (e j).code) ∙ done in omega arith))
    (λ (e : rule (after_all i cs) (ask (route x)) ≡ says (to_backend t k (number_of x)) (after_all i cs)). (λ j. (e j).answer)) (leads (after_all i cs) x t p (tag_since cs i k t u (led_tag i x t p led)))

-- ---- not before a lap is over

-- steps up to one that hands k out
record UpTo (c k : ℕ) (ss : List SearchStep) : Type 0 where
  steps : List SearchStep
  going : Going c steps
  last : last_found None steps ≡ Some k
  few : total steps ≤ total ss

module _ (s : SearchStep) (ss : List SearchStep) (c k : ℕ) where
  -- the first of them does
  first_one : s.found ≡ Some k → Going c (s ∷ []) → UpTo c k (s ∷ ss)
  unfolding total last_found
  first_one e g = record { steps = s ∷ []; going = g; last = e; few = omega arith }

  -- a later one does
  one_more : (d : ℕ) (u : UpTo d k ss) → Going c (s ∷ u.steps) → UpTo c k (s ∷ ss)
  unfolding total last_found
  one_more d u g = record { steps = s ∷ u.steps; going = g; last = last_of u.steps s.found k u.last; few = omega (arith, u.few) }

up_to : (ss : List SearchStep) (c k : ℕ) → c < 256 → Going c ss → Has k (indexes_handed_out ss) → UpTo c k ss
unfolding Going indexes_handed_out allocate
up_to [] c k l g h = absurd h
up_to (s ∷ ss) c k l (inl (i, g)) h =
    ⊎_elim (λ e. first_one s ss c k e (inl (i, tt))) (λ w. let u = up_to ss c k l g w in one_more s ss c k c u (inl (i, u.going))) (has_split s.found k (indexes_handed_out ss) h)
up_to (s ∷ ss) c k l (inr (a, g)) h =
    ⊎_elim (λ e. first_one s ss c k e (inr (a, tt))) (λ w. let u = up_to ss _ k (omega arith) g w in one_more s ss c k _ u (inr (a, u.going)))
    (has_split s.found k (indexes_handed_out ss) h)

not_sooner : (i : Instance) (r : Request) (k : ℕ) → MountedAt i r k → (cs : List Call) → WithoutStateRestore (rule i (mount r)).after cs
    → Has k (indexes_handed_out (steps_of (rule i (mount r)).after cs)) → 256 ≤ total (steps_of (rule i (mount r)).after cs)
not_sooner i r k m cs u h =
    let a = (rule i (mount r)).after in
    let low = low_after i (mount r) k m.found in
    let w = up_to (steps_of a cs) (counter_of a) k low (steps_going cs a low u) h in
    let lap = laps_from i m.counter (mount r) k m.found w.steps w.going w.last in
    omega (arith, w.few, lap.positive, lap.whole)

-- the theorem: within a lap
pub every_kept : EveryKept
every_kept i r k m cs u n few = every_own i r k m cs (ungiven cs (rule i (mount r)).after k (λ h. omega (arith, not_sooner i r k m cs u h)) n)
