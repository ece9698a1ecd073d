-- Demand 3 over restarts, of bytes: each life begins on bytes into which the state was restored that was saved of the bytes left before.
use Rattle.std.specs.Prelude.{ℕ, true, List, [], ◌∷◌, ◌++◌, ◌≡◌, take, None, Some, Ok}
use Rattle.rules.specs.Numbers.{DONE}
use Rattle.rules.specs.Bytes.{Bytes}
use Rattle.rules.specs.Instance.{counter_of}
use Rattle.rules.specs.Calls.{restore_from_bytes, rule}
use Rattle.rules.specs.claims.Driven.{Driven}
use Rattle.rules.specs.claims.Laps.{last_found, LapsBy}
use Rattle.rules.specs.claims.Trace.{steps_of}
use Rattle.rules.specs.claims.Restart.{Life, steps_in as rules_steps}
use Rattle.tables.specs.View.{view}
use Rattle.tables.specs.Laid.{laid}
use Rattle.vfs.specs.Runs.{Step, Allowed, Run, calls_of, counts, last_of}
use Rattle.persist.proofs.saving.save_to_bytes.Reads as persist-save
use Rattle.flat.specs.declared.WroteAnswer.{WroteAnswer}
use Rattle.gateway.proofs.state.galdovar_save_to_bytes.Reads as galdovar-save
use Rattle.contracts.specs.Made.{Lent, LentMut}
use Rattle.contracts.specs.Answers.{TellsIndex, LastTells, NoStateRestores, WholeLaps}

-- bytes, and steps on them: what runs from one restart to the next
pub record LifeOfBytes : Type 0 where
  pub start : List ℕ
  pub steps : List Step

-- the bytes that it leaves
abbrev pub bytes_left_by : LifeOfBytes → List ℕ
bytes_left_by l = last_of l.start l.steps

-- the steps of lives, one life after another
unfoldable pub steps_of_lives : List LifeOfBytes → List Step
steps_of_lives [] = []
steps_of_lives (l ∷ ls) = l.steps ++ steps_of_lives ls

-- the instances and the calls that they stand for
unfoldable pub lives_of : List LifeOfBytes → List Life
lives_of [] = []
lives_of (l ∷ ls) = record { start = view l.start; calls = calls_of l.steps } ∷ lives_of ls

-- lives after the bytes mem: each begins as Begins says of the bytes left before it, and has no done state restore among its steps (R87)
unfoldable pub Lives : (List ℕ → List ℕ → Type 0) → List ℕ → List LifeOfBytes → Type 0
Lives Begins mem [] = Unit {0}
Lives Begins mem (l ∷ ls) = Begins mem l.start × (Run l.start l.steps × (NoStateRestores l.steps × Lives Begins (bytes_left_by l) ls))

-- ---- how a life begins

-- bytes that a save of mem, the call or the export, which told that it is done, has written into a lent output: the first ones, as many as it told (R125)
pub data SavedOf : List ℕ → List ℕ → Type 0 where
  by_call : (κs : _) (s : Lent) (out : LentMut) (n : ℕ) (x : _) → persist-save.Post κs (s, (out, tt)) (Ok n) x → SavedOf s.now (take n x.1.0.now)
  by_export : (κs : _) (s : Lent) (out : LentMut) (r : WroteAnswer) (x : _) → galdovar-save.Post κs (s, (out, tt)) r x → r.code ≡ DONE → SavedOf s.now (take r.written x.1.0.now)

-- the counter is the one that was left
pub record Carries (mem start : List ℕ) : Type 0 where
  pub keeps : laid start ≡ true
  pub counter : counter_of (view start) ≡ counter_of (view mem)

-- by a done state restore of bytes that were saved of mem, which stands for a driven instance, into some storage (R119, R128, R134)
pub record RestartedOfBytes (mem start : List ℕ) : Type 0 where
  pub driven : Driven (view mem)
  pub bytes : List ℕ
  pub saved : SavedOf mem bytes
  pub step : Step
  pub allowed : Allowed step
  pub call : step.call ≡ restore_from_bytes bytes
  pub done : step.told.code ≡ DONE
  pub leaves : step.after ≡ start

-- ---- the claims

-- a step handed k out; lives follow, each with the counter that was left, and the last step of all hands k out again (R87, R88)
abbrev pub EveryRestartOfBytes : Type 0
EveryRestartOfBytes = (s : Step) → Allowed s → laid s.before ≡ true → Bytes s.before → (k : ℕ) → (rule (view s.before) s.call).found ≡ Some k
    → (ls : List LifeOfBytes) → Lives Carries s.after ls → last_found None (rules_steps (lives_of ls)) ≡ Some k → LapsBy (counts (steps_of_lives ls)) (rules_steps (lives_of ls))

-- the same over saves and restores, with steps before the first of them (R87, R88, R135)
abbrev pub EverySavedRestartOfBytes : Type 0
EverySavedRestartOfBytes = (s : Step) → Allowed s → laid s.before ≡ true → Bytes s.before → (k : ℕ) → (rule (view s.before) s.call).found ≡ Some k
    → (ss : List Step) → Run s.after ss → NoStateRestores ss → (ls : List LifeOfBytes) → Lives RestartedOfBytes (last_of s.after ss) ls
    → last_found None (steps_of (view s.after) (calls_of ss) ++ rules_steps (lives_of ls)) ≡ Some k
    → LapsBy (counts (ss ++ steps_of_lives ls)) (steps_of (view s.after) (calls_of ss) ++ rules_steps (lives_of ls))

-- the same from what the answers tell alone: a mount tells k, and the last step of all is a mount that tells k again (R87, R135)
abbrev pub EveryRestartOfAnswers : Type 0
EveryRestartOfAnswers = (s : Step) → Allowed s → Bytes s.before → (k : ℕ) → TellsIndex k s
    → (ss : List Step) → Run s.after ss → NoStateRestores ss → (ls : List LifeOfBytes) → Lives RestartedOfBytes (last_of s.after ss) ls
    → LastTells k (ss ++ steps_of_lives ls) → WholeLaps (counts (ss ++ steps_of_lives ls))
