-- Demand 3 over restarts: the lap goes on where the counter is carried over, as a save and a restore do.
use Rattle.std.specs.Prelude.{ℕ, ◌<◌, List, [], ◌∷◌, ◌++◌, ◌≡◌, None, Some}
use Rattle.rules.specs.Instance.{Instance, counter_of}
use Rattle.rules.specs.Saved.{encode}
use Rattle.rules.specs.StateRestore.{saved_state, restore_state_rule}
use Rattle.rules.specs.Calls.{Call, rule}
use Rattle.rules.specs.claims.Driven.{Driven}
use Rattle.rules.specs.claims.Laps.{SearchStep, last_found, Laps}
use Rattle.rules.specs.claims.Trace.{WithoutStateRestore, after_all, steps_of}

-- an instance, and calls on it: what runs from one restart to the next
pub record Life : Type 0 where
  pub start : Instance
  pub calls : List Call

-- what it leaves
abbrev pub left_by : Life → Instance
left_by l = after_all l.start l.calls

-- the steps of lives, one life after another
unfoldable pub steps_in : List Life → List SearchStep
steps_in [] = []
steps_in (l ∷ ls) = steps_of l.start l.calls ++ steps_in ls

-- lives after the instance i: each begins with the counter that was left, and has no done state restore among its calls (R87)
unfoldable pub Carried : Instance → List Life → Type 0
Carried i [] = Unit {0}
Carried i (l ∷ ls) = (counter_of l.start ≡ counter_of i) × (WithoutStateRestore l.start l.calls × Carried (left_by l) ls)

-- a call handed k out; lives follow, and the last call of all hands k out again (R87, R88)
abbrev pub EveryRestart : Type 0
EveryRestart = (i : Instance) → counter_of i < 256 → (c : Call) (k : ℕ) → (rule i c).found ≡ Some k → (ls : List Life) → Carried (rule i c).after ls
    → last_found None (steps_in ls) ≡ Some k → Laps (steps_in ls)

-- a restore of the saved bytes of i into f is done, and leaves j (R119, R128, R134)
pub record Restarted (i f j : Instance) : Type 0 where
  pub done : (restore_state_rule f (encode (saved_state i))).code ≡ 0
  pub gives : (restore_state_rule f (encode (saved_state i))).after ≡ j

-- lives after the instance i: each begins with a done restore of what was saved from the instance left before it, which is driven (R87, R134)
unfoldable pub Restarts : Instance → List Life → Type 0
Restarts i [] = Unit {0}
Restarts i (l ∷ ls) = Driven i × (((f : Instance) × Restarted i f l.start) × (WithoutStateRestore l.start l.calls × Restarts (left_by l) ls))

-- a call handed k out; after more calls come restarts, and the last call of all hands k out again (R87, R88, R135)
abbrev pub EverySavedRestart : Type 0
EverySavedRestart = (i : Instance) → counter_of i < 256 → (c : Call) (k : ℕ) → (rule i c).found ≡ Some k → (cs : List Call) → WithoutStateRestore (rule i c).after cs
    → (ls : List Life) → Restarts (after_all (rule i c).after cs) ls → last_found None (steps_of (rule i c).after cs ++ steps_in ls) ≡ Some k
    → Laps (steps_of (rule i c).after cs ++ steps_in ls)
