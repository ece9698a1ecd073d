-- The common form of the contracts of calls on an instance in bytes.
use Rattle.std.specs.Prelude.{ℕ, cond, true, List, [], ◌≡◌, Result, Ok, Err}
use Rattle.le.specs.Mem.{write}
use Rattle.rules.specs.Numbers.{DONE, SMALL}
use Rattle.rules.specs.Codes.{code_of}
use Rattle.rules.specs.declared.codes.VfsError.{VfsError}
use Rattle.rules.specs.Instance.{Instance}
use Rattle.rules.specs.Outcome.{Answer, nothing, Outcome, count}
use Rattle.tables.specs.View.{view}
use Rattle.tables.specs.Laid.{laid}

-- what an answer tells: its number, its values, and the count of visited indexes (R15, R16)
pub record Told : Type 0 where
  pub code : ℕ
  pub answer : Answer
  pub count : ℕ

-- by an outcome
abbrev pub told_by : Outcome → Told
told_by o = record { code = o.code; answer = o.answer; count = count o }

-- done, with these values
abbrev pub tells : Answer → Told
tells a = record { code = DONE; answer = a; count = 0 }

-- refused, with none, and with the count (R16)
abbrev pub counted : ℕ → ℕ → Told
counted code n = record { code = code; answer = nothing; count = n }

-- refused, where nothing was visited
abbrev pub refuses : ℕ → Told
refuses code = counted code 0

-- refused SMALL (R19)
abbrev pub told_small : Told
told_small = refuses SMALL

-- of a call that answers a value or a refusal, by the values that stand for it (R15, R16)
abbrev pub told_of : {T : Type 0} → (T → Answer) → Result T VfsError → Told
told_of values (Ok x) = tells (values x)
told_of values (Err e) = refuses (code_of e)

-- by a rule on the instance that the bytes stand for; SMALL where they break the layout rule (R19, R21)
unfoldable pub answered_by : List ℕ → (Instance → Outcome) → Told
answered_by mem f = cond (laid mem) (told_by (f (view mem))) told_small

-- the bytes that a rule lays at the start of the lent output; none where the layout rule is broken (R17)
unfoldable pub written_by : List ℕ → (Instance → Outcome) → List ℕ
written_by mem f = cond (laid mem) (f (view mem)).written []

-- ---- contracts, with the answer as a function of what is told: an export of `gateway` has its plain numbers

-- of a call that lays bytes into the lent output d, which is e then: the answer; the bytes stand at its start, and later ones keep what they held (R15, R17, R65, R125)
pub record WritesBy {A : Type 0} (says : Told → A) (mem : List ℕ) (f : Instance → Outcome) (d : List ℕ) (r : A) (e : List ℕ) : Type 0 where
  pub answer : r ≡ says (answered_by mem f)
  pub bytes : e ≡ write d 0 (written_by mem f)

-- of a call that changes the instance: the answer; the bytes exactly; they stand for what the rule leaves, and keep the layout rule (R15, R21)
pub record DoesBy {A : Type 0} (says : Told → A) (mem : List ℕ) (f : Instance → Outcome) (r : A) (after exact : List ℕ) : Type 0 where
  pub answer : r ≡ says (answered_by mem f)
  pub bytes : after ≡ exact
  pub stands : laid mem ≡ true → view after ≡ (f (view mem)).after
  pub keeps : laid mem ≡ true → laid after ≡ true

-- `WritesBy` where the answer is what is told (R15, R17)
abbrev pub Writes : List ℕ → (Instance → Outcome) → List ℕ → Told → List ℕ → Type 0
Writes = WritesBy (λ (t : Told). t)

-- `DoesBy` where the answer is what is told (R15, R21)
abbrev pub Does : List ℕ → (Instance → Outcome) → Told → List ℕ → List ℕ → Type 0
Does = DoesBy (λ (t : Told). t)
