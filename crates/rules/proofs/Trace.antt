-- Runs of calls from any instance: demand 3 over every call. Assumes nothing.
use mathlib.Core.Path.{◌≡◌, sym, ◌∙◌, subst}
use mathlib.Core.Logic.{inl, inr, ⊎_elim}
use mathlib.Core.List.{List, [], ◌∷◌}
use Rattle.std.specs.Prelude.{None, Some}
use Rattle.std.proofs.lemmas.Option.{none-some}
use Prim.Native.Nat.{ℕ, ◌+◌, ◌%◌, ◌<◌}
use native.Mathlib.Omega.{arith}
use lib.ListN.{length}
use Rattle.rules.specs.Round.{allocate}
use Rattle.rules.specs.Instance.{Instance, counter_of}
use Rattle.rules.specs.Mount.{allocation}
use Rattle.rules.specs.Calls.{Call, rule}
use Rattle.rules.specs.claims.Laps.{SearchStep, Searches, Going, total, last_found, Laps}
use Rattle.rules.specs.claims.Trace.{NoStateRestore, WithoutStateRestore, after_all, step_of, steps_of, EveryRun, EveryLap}
use Rattle.rules.proofs.Laps.{runs_round, every_allocator}
use Rattle.rules.proofs.Turn.{only_mounts, seen_moved, found_no_restore}

-- the counter moves by what a call visits
turned : (i : Instance) → counter_of i < 256 → (c : Call) → NoStateRestore c (rule i c) → counter_of (rule i c).after ≡ (counter_of i + length (rule i c).visits) % 256
turned i h c u =
    ⊎_elim (λ q. rw q.visits (omega (arith, q.counter))) (λ q. rw q.1.visits (q.1.counter ∙ seen_moved i)) (only_mounts i c u)

-- calls are steps of the allocator
pub steps_going : (cs : List Call) (i : Instance) → counter_of i < 256 → WithoutStateRestore i cs → Going (counter_of i) (steps_of i cs)
unfolding steps_of Going WithoutStateRestore allocation
steps_going [] i h u = tt
steps_going (c ∷ cs) i h u =
    let low : counter_of (rule i c).after < 256 = omega (arith, turned i h c u.0) in
    let on = steps_going cs (rule i c).after low u.1 in
    ⊎_elim (λ q. inl ((q.visits, q.found), subst (λ n. Going n (steps_of (rule i c).after cs)) q.counter on))
    (λ q. inr ((q.1.visits, q.1.found), subst (λ n. Going n (steps_of (rule i c).after cs)) q.1.counter on)) (only_mounts i c u.0)

pub all_moved : (cs : List Call) (i : Instance) → counter_of i < 256 → WithoutStateRestore i cs → counter_of (after_all i cs) ≡ (counter_of i + total (steps_of i cs)) % 256
unfolding steps_of after_all total WithoutStateRestore
all_moved [] i h u = omega arith
all_moved (c ∷ cs) i h u =
    let t = turned i h c u.0 in
    omega (arith, all_moved cs (rule i c).after (omega arith) u.1)

-- the theorem: the visited lists go round without a gap
pub goes_round : EveryRun
goes_round cs i h u = record { round = runs_round (steps_of i cs) (counter_of i) h (steps_going cs i h u); moved = all_moved cs i h u }

-- a call that hands an index out is a search
pub searches : (i : Instance) (c : Call) (k : ℕ) → (rule i c).found ≡ Some k → Searches (counter_of i) (step_of i c) × (counter_of (rule i c).after ≡ (allocation i).counter)
unfolding allocation
searches i c k e =
    ⊎_elim (λ q. absurd (none-some k (sym q.found ∙ e))) (λ q. ((q.1.visits, q.1.found), q.1.counter)) (only_mounts i c (found_no_restore i c k e))

-- and the counter that it leaves is a byte
pub low_after : (i : Instance) (c : Call) (k : ℕ) → (rule i c).found ≡ Some k → counter_of (rule i c).after < 256
unfolding allocation allocate
low_after i c k e = omega (arith, (searches i c k e).1)

-- after a call that handed k out, steps up to one that hands k out again
pub laps_from : (i : Instance) → counter_of i < 256 → (c : Call) (k : ℕ) → (rule i c).found ≡ Some k → (ss : List SearchStep) → Going (counter_of (rule i c).after) ss
    → last_found None ss ≡ Some k → Laps ss
unfolding allocation
laps_from i h c k first ss g = let s = searches i c k first in every_allocator (counter_of i) h (step_of i c) k s.0 first ss (subst (λ n. Going n ss) s.1 g)

-- the theorem: calls up to one that hands k out again
pub laps : EveryLap
laps i h c k first cs u = let a = (rule i c).after in laps_from i h c k first (steps_of a cs) (steps_going cs a (low_after i c k first) u)
