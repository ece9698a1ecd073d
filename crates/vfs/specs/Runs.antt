-- Demand 3 of the bytes: steps that the contracts allow, each on what the last one left, and what is claimed of the counts in their answers and of a kept number.
use Rattle.std.specs.Prelude.{ℕ, ◌+◌, ◌<◌, true, List, [], ◌∷◌, ◌≡◌, ◌⊎◌, Option, None, Some}
use Rattle.rules.specs.Bytes.{Bytes}
use Rattle.rules.specs.Numbers.{index_of, number_of, NOENT}
use Rattle.rules.specs.Outcome.{mounted, to_backend}
use Rattle.rules.specs.Instance.{Instance}
use Rattle.rules.specs.Mount.{Request, mount_rule, restore_mount_rule}
use Rattle.rules.specs.Unmount.{unmount_rule}
use Rattle.rules.specs.StateRestore.{restore_state_rule}
use Rattle.rules.specs.Calls.{Call, mount, restore_mount, umount, ask, route, restore_from_bytes, rule}
use Rattle.rules.specs.claims.Driven.{Typed, Driven}
use Rattle.rules.specs.claims.Laps.{last_found, Has, LapsBy}
use Rattle.rules.specs.claims.Trace.{WithoutStateRestore, steps_of}
use Rattle.rules.specs.claims.Kept.{named_in, Ungiven, old_mount, index_in, Standing}
use Rattle.tables.specs.View.{view}
use Rattle.tables.specs.Laid.{laid}
use Rattle.call_form.specs.Form.{Told, tells, refuses, answered_by, Does}

-- a call on lent bytes: the bytes before, the call, what its answer tells, and the bytes after
pub record Step : Type 0 where
  pub before : List ℕ
  pub call : Call
  pub told : Told
  pub after : List ℕ

-- what the call's contract says of it: the answer, what the bytes after stand for, and the layout rule kept
pub record Allowed (s : Step) : Type 0 where
  pub answer : s.told ≡ answered_by s.before (λ i. rule i s.call)
  pub stands : laid s.before ≡ true → view s.after ≡ (rule (view s.before) s.call).after
  pub keeps : laid s.before ≡ true → laid s.after ≡ true

-- each step finds the bytes as the last one left them
unfoldable pub Run : List ℕ → List Step → Type 0
Run mem [] = Unit {0}
Run mem (s ∷ ss) = (s.before ≡ mem) × (Allowed s × Run s.after ss)

-- the calls of the steps
unfoldable pub calls_of : List Step → List Call
calls_of [] = []
calls_of (s ∷ ss) = s.call ∷ calls_of ss

-- the sum of the counts in the answers, 257 of a FULL included (R82, R87)
unfoldable pub counts : List Step → ℕ
counts [] = 0
counts (s ∷ ss) = s.told.count + counts ss

-- from any bytes that keep the layout rule: a step handed k out, and the last of the steps after it hands k out again (R87, R88)
abbrev pub EveryLapOfBytes : Type 0
EveryLapOfBytes = (s : Step) → Allowed s → laid s.before ≡ true → Bytes s.before → (k : ℕ) → (rule (view s.before) s.call).found ≡ Some k
    → (ss : List Step) → Run s.after ss → WithoutStateRestore (view s.after) (calls_of ss) → last_found None (steps_of (view s.after) (calls_of ss)) ≡ Some k
    → LapsBy (counts ss) (steps_of (view s.after) (calls_of ss))

-- the index that a done mount tells is the one handed out (R75, R85)
abbrev pub EveryMountOfBytes : Type 0
EveryMountOfBytes = (s : Step) → Allowed s → laid s.before ≡ true → (r : Request) → s.call ≡ mount r → s.told.code ≡ 0
    → (k : ℕ) × (t : Option ℕ) × (s.told.answer ≡ mounted k t) × ((rule (view s.before) s.call).found ≡ Some k)

-- the bytes that the steps leave
unfoldable pub last_of : List ℕ → List Step → List ℕ
last_of mem [] = mem
last_of mem (s ∷ ss) = last_of s.after ss

-- a mount tells that it is done, with the index k; steps follow whose counts sum to less than 256, with no done state restore and no restored mount at k; then a number
-- of that index is routed: to the tag of that mount, or it is refused NOENT (R82, R87, R106)
abbrev pub EveryKeptOfBytes : Type 0
EveryKeptOfBytes = (s : Step) → Allowed s → laid s.before ≡ true → Bytes s.before → (r : Request) → s.call ≡ mount r → s.told.code ≡ 0
    → (k : ℕ) (t : Option ℕ) → s.told.answer ≡ mounted k t
    → (ss : List Step) → Run s.after ss → WithoutStateRestore (view s.after) (calls_of ss) → (Has k (named_in (calls_of ss)) → ⊥) → counts ss < 256
    → (q : Step) → Allowed q → q.before ≡ last_of s.after ss → (x : ℕ) → q.call ≡ ask (route x) → index_of x ≡ k
    → (q.told ≡ refuses NOENT) ⊎ (q.told ≡ tells (to_backend r.tag k (number_of x)))

-- such a mount, and steps of which none ends it, however many: a number of its index is routed to its tag (R76, R93, R98, R106)
abbrev pub EveryStandingOfBytes : Type 0
EveryStandingOfBytes = (s : Step) → Allowed s → laid s.before ≡ true → Bytes s.before → (r : Request) → s.call ≡ mount r → s.told.code ≡ 0
    → (k : ℕ) (t : Option ℕ) → s.told.answer ≡ mounted k t
    → (ss : List Step) → Run s.after ss → Standing k (view s.after) (calls_of ss)
    → (q : Step) → Allowed q → q.before ≡ last_of s.after ss → (x : ℕ) → q.call ≡ ask (route x) → index_of x ≡ k
    → q.told ≡ tells (to_backend r.tag k (number_of x))

-- a step tells that it is done, and takes a mount of the index k off; no step, that one included, gives k away; then a number of that index is refused NOENT
-- (R76, R93, R98, R106)
abbrev pub EveryGoneOfBytes : Type 0
EveryGoneOfBytes = (s : Step) → Allowed s → laid s.before ≡ true → s.told.code ≡ 0 → (k : ℕ) → 0 < k → index_in (old_mount (view s.before) s.call) ≡ Some k
    → (ss : List Step) → Run s.after ss → Ungiven k (view s.before) (s.call ∷ calls_of ss)
    → (q : Step) → Allowed q → q.before ≡ last_of s.after ss → (x : ℕ) → q.call ≡ ask (route x) → index_of x ≡ k
    → q.told ≡ refuses NOENT

-- a step that a contract allows, from bytes that keep the layout rule and are driven, leaves driven bytes
abbrev pub StaysDriven : Type 0
StaysDriven = (s : Step) → Allowed s → Typed s.call → laid s.before ≡ true → Driven (view s.before) → Driven (view s.after)

-- ---- which steps the contracts of the calls allow

-- a step of these bytes, this call, and what it tells and leaves
abbrev pub step_on : List ℕ → Call → Told → List ℕ → Step
step_on mem c t after = record { before = mem; call = c; told = t; after = after }

-- of a call that writes, with whatever bytes its contract names; and of one that only reads, whose rule leaves the instance
pub record EveryAllowed : Type 0 where
  pub writes : (mem : List ℕ) (t : Told) (after exact : List ℕ) (c : Call) → Does mem (λ (i : Instance). rule i c) t after exact → Allowed (step_on mem c t after)
  pub mounts : (mem : List ℕ) (t : Told) (after exact : List ℕ) (r : Request) → Does mem (λ (i : Instance). mount_rule i r) t after exact → Allowed (step_on mem (mount r) t after)
  pub restores_mount : (mem : List ℕ) (t : Told) (after exact : List ℕ) (k : ℕ) (r : Request) → Does mem (λ (i : Instance). restore_mount_rule i k r) t after exact → Allowed (step_on mem (restore_mount k r) t after)
  pub unmounts : (mem : List ℕ) (t : Told) (after exact path : List ℕ) → Does mem (λ (i : Instance). unmount_rule i path) t after exact → Allowed (step_on mem (umount path) t after)
  pub restores : (mem : List ℕ) (t : Told) (after exact b : List ℕ) → Does mem (λ (i : Instance). restore_state_rule i b) t after exact → Allowed (step_on mem (restore_from_bytes b) t after)
  pub reads : (mem : List ℕ) (t : Told) (c : Call) → ((i : Instance) → (rule i c).after ≡ i) → t ≡ answered_by mem (λ (i : Instance). rule i c) → Allowed (step_on mem c t mem)
