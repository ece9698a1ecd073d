-- Demand 3 over any calls on any instance: the calls as steps of the allocator, and what is claimed of them.
use Rattle.std.specs.Prelude.{ℕ, ◌+◌, ◌%◌, ◌≤◌, ◌<◌, true, false, ◌&&◌, ◌≡◌, ◌⊎◌, List, [], ◌∷◌, length, Option, None, Some}
use Rattle.rules.specs.Numbers.{max_ino}
use Rattle.rules.specs.Utf8.{well_formed}
use Rattle.rules.specs.Path.{rooted, too_long}
use Rattle.rules.specs.Round.{going_round}
use Rattle.rules.specs.Instance.{Instance, counter_of, held_in, tag_of}
use Rattle.rules.specs.Outcome.{mounted, Outcome}
use Rattle.rules.specs.Mount.{Request, no_room, allocation, mount_rule}
use Rattle.rules.specs.Calls.{Call, mount, restore_from_bytes, rule}
use Rattle.rules.specs.claims.Laps.{SearchStep, visits_of, total, last_found, Laps}

-- the call, with its outcome, is no done state restore (R87)
abbrev pub NoStateRestore : Call → Outcome → Type 0
NoStateRestore c o = (b : List ℕ) → c ≡ restore_from_bytes b → o.code ≡ 0 → ⊥

-- the calls, each on what the one before left, have no done state restore (R87)
unfoldable pub WithoutStateRestore : Instance → List Call → Type 0
WithoutStateRestore i [] = Unit {0}
WithoutStateRestore i (c ∷ cs) = NoStateRestore c (rule i c) × WithoutStateRestore (rule i c).after cs

-- what the calls leave
unfoldable pub after_all : Instance → List Call → Instance
after_all i [] = i
after_all i (c ∷ cs) = after_all (rule i c).after cs

-- a call as a step: what it finds held in the tables, what it visits, and what it hands out, also where it is then refused (R85, R86)
abbrev pub step_of : Instance → Call → SearchStep
step_of i c = record { held = held_in i; visits = (rule i c).visits; found = (rule i c).found }

-- the calls, each on what the one before left
unfoldable pub steps_of : Instance → List Call → List SearchStep
steps_of i [] = []
steps_of i (c ∷ cs) = step_of i c ∷ steps_of (rule i c).after cs

-- a mount that came to its allocation (R89)
pub record Moves (i : Instance) (c : Call) (o : Outcome) (r : Request) : Type 0 where
  pub call : c ≡ mount r
  pub visits : o.visits ≡ (allocation i).visits
  pub found : o.found ≡ (allocation i).found
  pub counter : counter_of o.after ≡ (allocation i).counter

-- the call visits nothing, hands nothing out, and leaves the counter (R89)
pub record Keeps (i : Instance) (o : Outcome) : Type 0 where
  pub visits : o.visits ≡ []
  pub found : o.found ≡ None
  pub counter : counter_of o.after ≡ counter_of i

-- what a done mount answers is the index k that its allocation found, and the slot of k holds the request's tag (R75, R76, R85)
pub record MountAnswers (i : Instance) (r : Request) (o : Outcome) (k : ℕ) : Type 0 where
  pub found : o.found ≡ Some k
  pub told : (t : Option ℕ) × (o.answer ≡ mounted k t)
  pub holds : k < length i.indexes.slots → tag_of o.after k ≡ Some r.tag

-- what a mount does: if rows 1 to 4 let it pass it makes its allocation, and if it is done it answers by that (R68 to R75, R82, R83)
pub record MountAllocates (i : Instance) (r : Request) (o : Outcome) : Type 0 where
  pub moves : too_long r.path ≡ false → well_formed r.path ≡ true → r.largest ≤ max_ino → (rooted r.path && no_room i r.path) ≡ false
      → Moves i (mount r) o r
  pub answers : o.code ≡ 0 → (k : ℕ) × MountAnswers i r o k

-- of every mount on every instance (R68 to R76, R85)
abbrev pub EveryMount : Type 0
EveryMount = (i : Instance) (r : Request) → MountAllocates i r (mount_rule i r)

-- no call but an allocation, and a done state restore, moves the counter or visits an index (R89)
abbrev pub OnlyMounts : Type 0
OnlyMounts = (i : Instance) (c : Call) → NoStateRestore c (rule i c) → Keeps i (rule i c) ⊎ ((r : Request) × Moves i c (rule i c) r)

-- the visited lists run round without a gap, and the counter moves by what they visit (R80, R83, R87)
pub record GoesRound (i : Instance) (cs : List Call) : Type 0 where
  pub round : visits_of (steps_of i cs) ≡ going_round (total (steps_of i cs)) (counter_of i)
  pub moved : counter_of (after_all i cs) ≡ (counter_of i + total (steps_of i cs)) % 256

-- from every instance, by any calls without a done state restore (R87)
abbrev pub EveryRun : Type 0
EveryRun = (cs : List Call) (i : Instance) → counter_of i < 256 → WithoutStateRestore i cs → GoesRound i cs

-- a call handed k out, and the last of the calls after it hands k out again (R87, R88)
abbrev pub EveryLap : Type 0
EveryLap = (i : Instance) → counter_of i < 256 → (c : Call) (k : ℕ) → (rule i c).found ≡ Some k
    → (cs : List Call) → WithoutStateRestore (rule i c).after cs → last_found None (steps_of (rule i c).after cs) ≡ Some k → Laps (steps_of (rule i c).after cs)
