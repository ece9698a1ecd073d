-- Steps of any allocator go round without a gap: demand 3, whatever is held at each step. Assumes nothing.
use mathlib.Core.Path.{◌≡◌, refl, sym, ap, ◌∙◌}
use mathlib.Core.Bool.{true}
use mathlib.Core.Logic.{inl, inr, ⊎_elim}
use mathlib.Core.List.{List, [], ◌∷◌, ◌++◌}
use Rattle.std.specs.Prelude.{Option, None, Some}
use Rattle.std.proofs.lemmas.Option.{none-some}
use Prim.Native.Nat.{ℕ, ◌+◌, ◌-◌, ◌%◌, ◌≤◌, ◌<◌}
use native.Mathlib.Omega.{arith}
use lib.ListN.{length}
use Rattle.rules.specs.Round.{after, going_round, until_twice, visited, free_of, allocate}
use Rattle.rules.specs.claims.Laps.{SearchStep, Idle, Searches, Going, visits_of, total, last_found, Meets, Met, EveryAllocator}
use Rattle.rules.proofs.Tests.{le_or_lt}
use Rattle.rules.proofs.Round.{round_append, visited_round, ends, meets}
use Rattle.rules.proofs.Allocation.{not_free}

-- ---- one step

-- from the counter c to the counter d
record Turn (c : ℕ) (s : SearchStep) (d : ℕ) : Type 0 where
  pub round : s.visits ≡ going_round (length s.visits) c
  pub moved : d ≡ (c + length s.visits) % 256
  pub ended_at : (k : ℕ) → s.found ≡ Some k → d ≡ after k
  pub counted : (k : ℕ) → s.found ≡ Some k → 0 < length s.visits
  pub sees : (e : ℕ) → e < length s.visits → 0 < (c + e) % 256 → Meets ((c + e) % 256) s

module _ (c : ℕ) (h : c < 256) (s : SearchStep) where
  idle_turn : Idle s → Turn c s c
  unfolding going_round
  idle_turn (v, f) = record {
    round = rw v;
    moved = rw v (omega arith);
    ended_at = λ k e. absurd (none-some k (sym f ∙ e));
    counted = λ k e. absurd (none-some k (sym f ∙ e));
    sees = λ e l p. absurd (omega (arith, rw v at l));
  }

  search_turn : Searches c s → Turn c s (allocate s.held c).counter
  unfolding allocate until_twice going_round visited
  search_turn (v, f) =
      let free = free_of s.held in
      record {
        round = rw v (visited_round free 257 c);
        moved = rw v;
        ended_at = λ k e. ends free 257 c k h (sym f ∙ e);
        counted = λ k e. rw v (omega arith);
        sees = λ e l p.
            let j = (c + e) % 256 in
            let m = meets free 257 c e h (rw v at l) in
            rw (v, f)
            (⊎_elim (λ g. ⊎_elim (λ (z : j ≡ 0). absurd (omega arith)) (λ (t : s.held j ≡ true). inr (m.0, t)) (not_free s.held j g)) (λ a. inl a) m.1);
      }

  -- a step and what comes after it
  first_turn : (ss : List SearchStep) → Going c (s ∷ ss) → (d : ℕ) × (Turn c s d × Going d ss)
  unfolding Going
  first_turn ss (inl (i, g)) = (c, (idle_turn i, g))
  first_turn ss (inr (a, g)) = ((allocate s.held c).counter, (search_turn a, g))

-- ---- any steps

-- the visited lists run round without a gap
pub runs_round : (ss : List SearchStep) (c : ℕ) → c < 256 → Going c ss → visits_of ss ≡ going_round (total ss) c
unfolding visits_of total going_round
runs_round [] c h g = refl
runs_round (s ∷ ss) c h g =
    let f = first_turn c h s ss g in
    let t = f.1.0 in
    let on : visits_of ss ≡ going_round (total ss) f.0 = runs_round ss f.0 (omega (arith, t.moved)) f.1.1 in
    (λ x. t.round x ++ on x) ∙ ap (λ (e : ℕ). going_round (length s.visits) c ++ going_round (total ss) e) t.moved ∙ round_append (length s.visits) (total ss) c h

-- where the last step handed k out, the counter has moved to the index after it
run_ends : (ss : List SearchStep) (c k : ℕ) (x : Option ℕ) → c < 256 → Going c ss → (x ≡ Some k → c ≡ after k) → last_found x ss ≡ Some k → (c + total ss) % 256 ≡ after k
unfolding last_found total
run_ends [] c k x h g came e = omega (arith, came e)
run_ends (s ∷ ss) c k x h g came e =
    let f = first_turn c h s ss g in
    let t = f.1.0 in
    omega (arith, t.moved, run_ends ss f.0 k s.found (omega (arith, t.moved)) f.1.1 (t.ended_at k) e)

run_counts : (ss : List SearchStep) (c k : ℕ) (x : Option ℕ) → c < 256 → Going c ss → (x ≡ Some k → ⊥) → last_found x ss ≡ Some k → 0 < total ss
unfolding last_found total
run_counts [] c k x h g came e = absurd (came e)
run_counts (s ∷ ss) c k x h g came e =
    let f = first_turn c h s ss g in
    let t = f.1.0 in
    ⊎_elim (λ (z : length s.visits ≤ 0).
    omega (arith, run_counts ss f.0 k s.found (omega (arith, t.moved)) f.1.1 (λ q. omega (arith, t.counted k q)) e))
    (λ (p : 0 < length s.visits). omega arith) (le_or_lt (length s.visits) 0)

-- each index that the steps visit is handed out or seen occupied
run_meets : (ss : List SearchStep) (c d j : ℕ) → c < 256 → Going c ss → d < total ss → j ≡ (c + d) % 256 → 0 < j → Met j ss
unfolding total Met
run_meets [] c d j h g l e p = absurd (omega arith)
run_meets (s ∷ ss) c d j h g l e p =
    let n = length s.visits in
    let f = first_turn c h s ss g in
    let t = f.1.0 in
    ⊎_elim (λ (q : n ≤ d).
    inr (run_meets ss f.0 (d - n) j (omega (arith, t.moved)) f.1.1 (omega arith) (omega (arith, t.moved)) p))
    (λ (q : d < n). inl (rw e (t.sees d q (omega arith)))) (le_or_lt n d)

-- the theorem: after a search that handed k out, steps up to one that hands k out again
pub every_allocator : EveryAllocator
every_allocator c h s k is first ss g last =
    let t = search_turn c h s is in
    let d : ℕ = (allocate s.held c).counter in
    let low : d < 256 = omega (arith, t.moved) in
    let here : d ≡ after k = t.ended_at k first in
    let again : (d + total ss) % 256 ≡ after k = run_ends ss d k None low g (λ e. absurd (none-some k e)) last in
    let positive : 0 < total ss = run_counts ss d k None low g (none-some k) last in
    record { positive = positive; whole = omega arith; fair = λ x p q. run_meets ss d ((x + 256 - d) % 256) x low g (omega arith) (omega arith) p }

-- ---- steps behind steps

pub going_append : (ss ts : List SearchStep) (c : ℕ) → c < 256 → Going c ss → Going ((c + total ss) % 256) ts → Going c (ss ++ ts)
unfolding Going total
going_append [] ts c h g r = let e : (c + 0) % 256 ≡ c = omega arith in rw e at r
going_append (s ∷ ss) ts c h (inl (i, g)) r =
    let e : (c + (length s.visits + total ss)) % 256 ≡ (c + total ss) % 256 = omega (arith, ap length i.0) in
    inl (i, going_append ss ts c h g (rw e at r))
going_append (s ∷ ss) ts c h (inr (a, g)) r =
    let m = (search_turn c h s a).moved in
    let d : ℕ = (allocate s.held c).counter in
    let e : (c + (length s.visits + total ss)) % 256 ≡ (d + total ss) % 256 = omega arith in
    inr (a, going_append ss ts d (omega arith) g (rw e at r))

-- what the last of some steps handed out, whatever was handed out before them
pub last_of : (ts : List SearchStep) (x : Option ℕ) (k : ℕ) → last_found None ts ≡ Some k → last_found x ts ≡ Some k
unfolding last_found
last_of [] x k e = absurd (none-some k e)
last_of (t ∷ ts) x k e = e
