-- The lap over restarts: a done restore carries the counter over. Assumes nothing.
use mathlib.Core.Path.{◌≡◌, refl, sym, ap, ◌∙◌, subst}
use mathlib.Core.List.{List, [], ◌∷◌}
use Prim.Native.Nat.{ℕ, ◌+◌, ◌%◌, ◌<◌}
use native.Mathlib.Omega.{arith}
use Rattle.rules.specs.Instance.{Instance, counter_of}
use Rattle.rules.specs.Saved.{State, encode}
use Rattle.rules.specs.StateRestore.{saved_state, state_restored_to}
use Rattle.rules.specs.Calls.{rule}
use Rattle.rules.specs.claims.Driven.{Driven}
use Rattle.rules.specs.claims.Laps.{Going, total}
use Rattle.rules.specs.claims.Trace.{after_all, steps_of}
use Rattle.rules.specs.claims.Restart.{Life, left_by, steps_in, Carried, Restarted, Restarts, EveryRestart, EverySavedRestart}
use Rattle.rules.proofs.Laps.{going_append}
use Rattle.rules.proofs.Trace.{steps_going, all_moved, low_after, laps_from}
use Rattle.rules.proofs.Encoded.{state_read}
use Rattle.rules.proofs.Driven.{facts}
use Rattle.rules.proofs.SaveThenRestore.{saved_fits, restore_done}

-- the steps of lives go on from the counter that was left
lives_going : (ls : List Life) (i : Instance) → counter_of i < 256 → Carried i ls → Going (counter_of i) (steps_in ls)
unfolding steps_in Carried Going
lives_going [] i h c = tt
lives_going (l ∷ ls) i h (e, (u, c)) =
    let a = l.start in
    let n : ℕ = total (steps_of a l.calls) in
    let moved : counter_of (left_by l) ≡ (counter_of i + n) % 256 = omega (arith, e, all_moved l.calls a (omega arith) u) in
    let on : Going ((counter_of i + n) % 256) (steps_in ls) = subst (λ (m : ℕ). Going m (steps_in ls)) moved (lives_going ls (left_by l) (omega arith) c) in
    going_append (steps_of a l.calls) (steps_in ls) (counter_of i) h (subst (λ (m : ℕ). Going m (steps_of a l.calls)) e (steps_going l.calls a (omega arith) u)) on

-- the theorem: the counter carried over
pub laps_over : EveryRestart
laps_over i h c k first ls u = laps_from i h c k first (steps_in ls) (lives_going ls (rule i c).after (low_after i c k first) u)

-- ---- a save and a restore

-- a done restore of what a driven instance saved sets its counter
restored_counter : (i f j : Instance) → Driven i → Restarted i f j → counter_of j ≡ counter_of i
unfolding saved_state state_restored_to
restored_counter i f j d r =
    ap counter_of (sym r.gives ∙ (restore_done f (encode (saved_state i)) r.done).1)
    ∙ ap (λ (s : State). s.counter) (state_read (saved_state i) (saved_fits i (facts i d)))

carried : (ls : List Life) (i : Instance) → Restarts i ls → Carried i ls
unfolding Restarts Carried
carried [] i r = tt
carried (l ∷ ls) i (d, ((f, r), (u, rs))) = (restored_counter i f l.start d r, (u, carried ls (left_by l) rs))

-- the theorem: over saves and restores
pub laps_over_restore : EverySavedRestart
unfolding steps_in Carried
laps_over_restore i h c k first cs u ls r last = laps_over i h c k first (record { start = (rule i c).after; calls = cs } ∷ ls) (refl, (u, carried ls (after_all (rule i c).after cs) r)) last
