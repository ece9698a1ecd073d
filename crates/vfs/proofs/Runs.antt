-- Demand 3 of the bytes, from the theorem on the rules; and which steps the contracts of the calls allow. Assumes nothing.
use mathlib.Core.Path.{◌≡◌, refl, sym, ap, ◌∙◌, subst}
use mathlib.Core.Bool.{true}
use mathlib.Core.List.{List, [], ◌∷◌}
use mathlib.Core.Logic.{inl, inr, ⊎_elim}
use Rattle.std.specs.Prelude.{Option, None, Some}
use Prim.Native.Nat.{ℕ, ◌+◌, ◌<◌}
use Rattle.rules.specs.Bytes.{Bytes}
use Rattle.rules.specs.Numbers.{index_of, number_of, NOENT}
use Rattle.rules.specs.Instance.{Instance}
use Rattle.rules.specs.Outcome.{mounted, to_backend, Outcome, count, refused, says}
use Rattle.rules.specs.Mount.{Request, mount_rule, restore_mount_rule}
use Rattle.rules.specs.Unmount.{unmount_rule}
use Rattle.rules.specs.StateRestore.{restore_state_rule}
use Rattle.rules.specs.Calls.{Call, mount, restore_mount, umount, ask, route, restore_from_bytes, rule}
use Rattle.rules.specs.claims.Driven.{call as by_call}
use Rattle.rules.specs.claims.Laps.{total, last_found, LapsBy, Laps}
use Rattle.rules.specs.claims.Trace.{WithoutStateRestore, after_all, steps_of}
use Rattle.rules.specs.claims.Kept.{Ungiven, Standing, LeadsTo, MountedAt}
use Rattle.rules.proofs.Turn.{mounts_allocate}
use Rattle.rules.proofs.Trace.{laps}
use Rattle.rules.proofs.Kept.{least_index, every_new, every_standing, every_gone, every_kept}
use Rattle.tables.specs.View.{view}
use Rattle.tables.specs.Laid.{laid}
use Rattle.call_form.specs.Form.{Told, told_by, tells, answered_by, Does}
use Rattle.tables.proofs.Indexes.{slots_count}
use Rattle.storage.proofs.Laid.{told_by_lem}
use Rattle.vfs.specs.Runs.{Step, Allowed, Run, calls_of, counts, EveryLapOfBytes, EveryMountOfBytes, last_of, EveryKeptOfBytes, EveryStandingOfBytes, EveryGoneOfBytes, StaysDriven, EveryAllowed}
use Rattle.mount_parts.proofs.MountWays.{counter_in}

-- the counts that are told are those of the rules
same_total : (ss : List Step) (mem : List ℕ) → laid mem ≡ true → Run mem ss → counts ss ≡ total (steps_of (view mem) (calls_of ss))
unfolding Run calls_of counts total steps_of
same_total [] mem l r = refl
same_total (s ∷ ss) mem l (b, (a, r)) =
    let f : Instance → Outcome = λ (i : Instance). rule i s.call in
    let on : laid s.before ≡ true = ap laid b ∙ l in
    let told : s.told.count ≡ count (rule (view s.before) s.call) = λ i. ((a.answer ∙ told_by_lem s.before f on) i).count in
    let rest : counts ss ≡ total (steps_of (view s.after) (calls_of ss)) = same_total ss s.after (a.keeps on) r in
    (λ i. told i + rest i)
    ∙ (λ i. count (rule (view s.before) s.call) + total (steps_of (a.stands on i) (calls_of ss)))
    ∙ (λ i. count (rule (view (b i)) s.call) + total (steps_of (rule (view (b i)) s.call).after (calls_of ss)))

-- the theorem
pub laps_of_bytes : EveryLapOfBytes
laps_of_bytes s a l bytes k f ss r u last =
    let e : view s.after ≡ (rule (view s.before) s.call).after = a.stands l in
    let z : Laps (steps_of (rule (view s.before) s.call).after (calls_of ss)) =
    laps (view s.before) (counter_in s.before bytes) s.call k f (calls_of ss) (subst (λ i. WithoutStateRestore i (calls_of ss)) e u) (subst (λ i. last_found None (steps_of i (calls_of ss)) ≡ Some k) e last) in
    let y : Laps (steps_of (view s.after) (calls_of ss)) = subst (λ i. Laps (steps_of i (calls_of ss))) (sym e) z in
    subst (λ n. LapsBy n (steps_of (view s.after) (calls_of ss))) (sym (same_total ss s.after (a.keeps l) r)) y

-- what a done mount tells
pub mounts_of_bytes : EveryMountOfBytes
unfolding rule
mounts_of_bytes s a l r e z =
    let f : Instance → Outcome = λ (i : Instance). rule i s.call in
    let t : s.told ≡ told_by (f (view s.before)) = a.answer ∙ told_by_lem s.before f l in
    let o : f (view s.before) ≡ mount_rule (view s.before) r = ap (rule (view s.before)) e in
    let m = (mounts_allocate (view s.before) r).answers (sym (λ i. (o i).code) ∙ (sym (λ i. (t i).code) ∙ z)) in
    (m.0, m.1.told.0, (λ i. (t i).answer) ∙ ((λ i. (o i).answer) ∙ m.1.told.1), (λ i. (o i).found) ∙ m.1.found)

-- ---- a kept number

-- the steps leave bytes that stand for what the calls leave, and keep the layout rule
run_leaves : (ss : List Step) (mem : List ℕ) → laid mem ≡ true → Run mem ss → (laid (last_of mem ss) ≡ true) × (view (last_of mem ss) ≡ after_all (view mem) (calls_of ss))
unfolding Run calls_of last_of after_all
run_leaves [] mem l r = (l, refl)
run_leaves (s ∷ ss) mem l (b, (a, r)) =
    let on : laid s.before ≡ true = ap laid b ∙ l in
    let w = run_leaves ss s.after (a.keeps on) r in
    (w.0, w.1 ∙ (λ i. after_all (a.stands on i) (calls_of ss)) ∙ (λ i. after_all (rule (view (b i)) s.call).after (calls_of ss)))

-- a step that tells a done mount
mounted_at : (s : Step) → Allowed s → laid s.before ≡ true → Bytes s.before → (r : Request) → s.call ≡ mount r → s.told.code ≡ 0 → (k : ℕ) (t : Option ℕ) → s.told.answer ≡ mounted k t
    → MountedAt (view s.before) r k
mounted_at s a l bytes r e z k t m =
    let i = view s.before in
    let told : s.told ≡ told_by (rule i s.call) = a.answer ∙ told_by_lem s.before (λ (j : Instance). rule j s.call) l in
    let by : rule i s.call ≡ rule i (mount r) = ap (rule i) e in
    let w = mounts_of_bytes s a l r e z in
    let same : w.0 ≡ k = let q = sym w.2 ∙ m in cc in
    record {
      counter = counter_in s.before bytes;
      slots = slots_count s.before;
      done = sym (λ j. (by j).code) ∙ (sym (λ j. (told j).code) ∙ z);
      found = sym (λ j. (by j).found) ∙ (w.3 ∙ ap {B = Option ℕ} Some same);
    }

-- a step that makes the call k, steps behind it, and a route of x then
module _ (s : Step) (a : Allowed s) (l : laid s.before ≡ true) (k : Call) (e : s.call ≡ k) (ss : List Step) (run : Run s.after ss) where
  abbrev before : Instance
  before = view s.before

  abbrev first : Instance
  first = (rule before k).after

  abbrev last : Instance
  last = after_all first (calls_of ss)

  stands_first : view s.after ≡ first
  stands_first = a.stands l ∙ ap (λ (y : Call). (rule before y).after) e

  same_counts : counts ss ≡ total (steps_of first (calls_of ss))
  same_counts = same_total ss s.after (a.keeps l) run ∙ ap (λ (j : Instance). total (steps_of j (calls_of ss))) stands_first

  told_last : (q : Step) → Allowed q → q.before ≡ last_of s.after ss → (x : ℕ) → q.call ≡ ask (route x) → q.told ≡ told_by (rule last (ask (route x)))
  told_last q b at x c =
      let w = run_leaves ss s.after (a.keeps l) run in
      let end : view q.before ≡ last = ap view at ∙ (w.1 ∙ ap (λ (j : Instance). after_all j (calls_of ss)) stands_first) in
      b.answer ∙ (told_by_lem q.before (λ (j : Instance). rule j q.call) (ap laid at ∙ w.0) ∙ (λ j. told_by (rule (end j) (c j))))

-- the tells of a number of index k
at_index : (t k x : ℕ) → index_of x ≡ k → tells (to_backend t (index_of x) (number_of x)) ≡ tells (to_backend t k (number_of x))
at_index t k x e = ap (λ (j : ℕ). tells (to_backend t j (number_of x))) e

-- the theorem: within a lap
pub kept_of_bytes : EveryKeptOfBytes
kept_of_bytes s a l bytes r e z k t m ss run u n few q b at x c ix =
    let told = told_last s a l (mount r) e ss run q b at x c in
    let j = last s a l (mount r) e ss run in
    let leads : LeadsTo j x r.tag =
    every_kept (view s.before) r k (mounted_at s a l bytes r e z k t m) (calls_of ss)
    (subst (λ (y : Instance). WithoutStateRestore y (calls_of ss)) (stands_first s a l (mount r) e ss run) u) n (subst (λ (y : ℕ). y < 256) (same_counts s a l (mount r) e ss run) few) x ix in
    ⊎_elim (λ (y : rule j (ask (route x)) ≡ refused NOENT j). inl (told ∙ ap told_by y))
    (λ (y : rule j (ask (route x)) ≡ says (to_backend r.tag (index_of x) (number_of x)) j). inr (told ∙ (ap told_by y ∙ at_index r.tag k x ix)))
    leads

-- the theorem: as long as the mount stands
pub standing_of_bytes : EveryStandingOfBytes
standing_of_bytes s a l bytes r e z k t m ss run stand q b at x c ix =
    let i = view s.before in
    let d = mounted_at s a l bytes r e z k t m in
    let f = first s a l (mount r) e ss run in
    let new : rule f (ask (route x)) ≡ says (to_backend r.tag (index_of x) (number_of x)) f = every_new i r k d x ix in
    let on : Standing (index_of x) f (calls_of ss) = subst (λ (j : ℕ). Standing j f (calls_of ss)) (sym ix) (subst (λ (y : Instance). Standing k y (calls_of ss)) (stands_first s a l (mount r) e ss run) stand) in
    told_last s a l (mount r) e ss run q b at x c
    ∙ (ap told_by (every_standing f x r.tag (rw ix (least_index i r k d)) (λ j. (new j).answer) (calls_of ss) on) ∙ at_index r.tag k x ix)

-- the theorem: once it is taken off
pub gone_of_bytes : EveryGoneOfBytes
unfolding after_all
gone_of_bytes s a l z k p o ss run u q b at x c ix =
    let i = view s.before in
    let done : (rule i s.call).code ≡ 0 = sym (λ j. ((a.answer ∙ told_by_lem s.before (λ (y : Instance). rule y s.call) l) j).code) ∙ z in
    let None = every_gone i s.call x (rw ix p) done (rw ix o) (calls_of ss) (subst (λ (y : ℕ). Ungiven y i (s.call ∷ calls_of ss)) (sym ix) u) in
    told_last s a l s.call refl ss run q b at x c ∙ ap told_by None

-- driven bytes stay driven
pub stays_driven : StaysDriven
stays_driven s a t l d = by_call (view s.before) (view s.after) s.call t d (sym (a.stands l))

-- ---- the steps of the calls

module _ (mem : List ℕ) (t : Told) (after exact : List ℕ) where
  pub allowed : (c : Call) → Does mem (λ (i : Instance). rule i c) t after exact → Allowed (record { before = mem; call = c; told = t; after = after })
  allowed c d = record { answer = d.answer; stands = d.stands; keeps = d.keeps }

  pub mount_allowed : (r : Request) → Does mem (λ (i : Instance). mount_rule i r) t after exact → Allowed (record { before = mem; call = mount r; told = t; after = after })
  unfolding rule
  mount_allowed r d = allowed (mount r) d

  pub restore_mount_allowed : (k : ℕ) (r : Request) → Does mem (λ (i : Instance). restore_mount_rule i k r) t after exact → Allowed (record { before = mem; call = restore_mount k r; told = t; after = after })
  unfolding rule
  restore_mount_allowed k r d = allowed (restore_mount k r) d

  pub umount_allowed : (path : List ℕ) → Does mem (λ (i : Instance). unmount_rule i path) t after exact → Allowed (record { before = mem; call = umount path; told = t; after = after })
  unfolding rule
  umount_allowed path d = allowed (umount path) d

  pub restore_allowed : (b : List ℕ) → Does mem (λ (i : Instance). restore_state_rule i b) t after exact → Allowed (record { before = mem; call = restore_from_bytes b; told = t; after = after })
  unfolding rule
  restore_allowed b d = allowed (restore_from_bytes b) d

-- a call that only reads: its rule leaves the instance
pub read_allowed : (mem : List ℕ) (t : Told) (c : Call) → ((i : Instance) → (rule i c).after ≡ i) → t ≡ answered_by mem (λ (i : Instance). rule i c) → Allowed (record { before = mem; call = c; told = t; after = mem })
read_allowed mem t c same e = record { answer = e; stands = λ l. sym (same (view mem)); keeps = λ l. l }

pub every_allowed : EveryAllowed
every_allowed = record {
  writes = allowed;
  mounts = mount_allowed;
  restores_mount = restore_mount_allowed;
  unmounts = umount_allowed;
  restores = restore_allowed;
  reads = read_allowed;
}
