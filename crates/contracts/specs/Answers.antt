-- Demand 3 and a kept number from what the answers tell alone; and which number and which index a step tells, and the numbers of nodes that are gone, of bytes.
use Rattle.std.specs.Prelude.{ℕ, ◌+◌, ◌%◌, ◌<◌, true, List, [], ◌∷◌, ◌⊎◌, ◌≡◌, Option, None, Some}
use Rattle.rules.specs.Numbers.{DONE, NOENT, index_of, number_of}
use Rattle.rules.specs.Bytes.{Bytes}
use Rattle.rules.specs.Tree.{node_in}
use Rattle.rules.specs.Instance.{held_in, counter_of}
use Rattle.rules.specs.Outcome.{mounted, to_backend}
use Rattle.rules.specs.Mount.{Request}
use Rattle.rules.specs.Calls.{mount, ask, route, restore_from_bytes}
use Rattle.rules.specs.claims.Exactly.{Decides, tests}
use Rattle.rules.specs.claims.Allocation.{FirstFree}
use Rattle.rules.specs.claims.Laps.{Has}
use Rattle.rules.specs.claims.Kept.{named, named_in}
use Rattle.tables.specs.View.{view}
use Rattle.tables.specs.Laid.{laid}
use Rattle.call_form.specs.Form.{tells, refuses}
use Rattle.vfs.specs.Runs.{Step, Allowed, Run, calls_of, counts, last_of}

-- ---- what answers tell

-- a mount tells that it is done, and the index k (R75)
pub record TellsIndex (k : ℕ) (s : Step) : Type 0 where
  pub request : Request
  pub call : s.call ≡ mount request
  pub done : s.told.code ≡ DONE
  pub replaced : Option ℕ
  pub answer : s.told.answer ≡ mounted k replaced

-- the last of the steps is such a mount
unfoldable pub LastTells : ℕ → List Step → Type 0
LastTells k [] = ⊥
LastTells k (s ∷ []) = TellsIndex k s
LastTells k (s ∷ q ∷ ss) = LastTells k (q ∷ ss)

-- no state restore tells that it is done (R87)
unfoldable pub NoStateRestores : List Step → Type 0
NoStateRestores [] = Unit {0}
NoStateRestores (s ∷ ss) = ((b : List ℕ) → s.call ≡ restore_from_bytes b → s.told.code ≡ DONE → ⊥) × NoStateRestores ss

-- a call tells that it is done, and gives k away: a mount tells k, or a restored mount names it (R75, R93)
abbrev pub GivesAway : ℕ → Step → Type 0
GivesAway k s = TellsIndex k s ⊎ ((s.told.code ≡ DONE) × (named s.call ≡ Some k))

-- no step does
unfoldable pub NoneGives : ℕ → List Step → Type 0
NoneGives k [] = Unit {0}
NoneGives k (s ∷ ss) = (GivesAway k s → ⊥) × NoneGives k ss

-- ---- the claims

-- which number a step tells, by the tests of its call: FULL of a mount that rows 1 to 4 let pass exactly if the slots 1 to 255 are held (R15, R18, R84)
abbrev pub EveryNumberOfBytes : Type 0
EveryNumberOfBytes = (s : Step) → Allowed s → laid s.before ≡ true → Bytes s.before → Decides s.told.code (tests (view s.before) s.call)

-- the index that a done mount tells is the first free one going round from the counter, and its count is how many were visited (R80 to R82)
abbrev pub EveryFirstOfBytes : Type 0
EveryFirstOfBytes = (s : Step) → Allowed s → Bytes s.before → (k : ℕ) → TellsIndex k s
    → (d : ℕ) × FirstFree (held_in (view s.before)) (counter_of (view s.before)) k d × (s.told.count ≡ d + 1)

-- whole laps, and at least one (R87)
abbrev pub WholeLaps : ℕ → Type 0
WholeLaps n = (0 < n) × (n % 256 ≡ 0)

-- a mount tells the index k; steps follow, each on what the last one left, and the last of them is a mount that tells k again: the counts of the steps after the
-- first one, 257 of a FULL included, sum to whole laps (R82, R87)
abbrev pub EveryLapOfAnswers : Type 0
EveryLapOfAnswers = (s : Step) → Allowed s → Bytes s.before → (k : ℕ) → TellsIndex k s
    → (ss : List Step) → Run s.after ss → NoStateRestores ss → LastTells k ss → WholeLaps (counts ss)

-- such a mount; steps follow whose counts sum to less than a lap, and no restored mount among them names k; then a number of that index is routed to the tag of the
-- mount, or it is refused NOENT (R82, R87, R106)
abbrev pub EveryKeptOfAnswers : Type 0
EveryKeptOfAnswers = (s : Step) → Allowed s → Bytes s.before → (k : ℕ) → (m : TellsIndex k s)
    → (ss : List Step) → Run s.after ss → NoStateRestores ss → (Has k (named_in (calls_of ss)) → ⊥) → counts ss < 256
    → (q : Step) → Allowed q → q.before ≡ last_of s.after ss → (x : ℕ) → q.call ≡ ask (route x) → index_of x ≡ k
    → (q.told ≡ refuses NOENT) ⊎ (q.told ≡ tells (to_backend m.request.tag k (number_of x)))

-- a route tells that the number x, with an index from 1 on, leads to the backend of the tag t; no step after it gives the index away; then a route of x that is done
-- tells the same: so a gateway judges a kept number by its mark (R76, R85, R93, R106)
abbrev pub EveryJudgedOfBytes : Type 0
EveryJudgedOfBytes = (p : Step) → Allowed p → (x t : ℕ) → 0 < index_of x → p.call ≡ ask (route x) → p.told ≡ tells (to_backend t (index_of x) (number_of x))
    → (ss : List Step) → Run p.after ss → NoneGives (index_of x) ss
    → (q : Step) → Allowed q → q.before ≡ last_of p.after ss → q.call ≡ ask (route x) → q.told.code ≡ DONE → q.told ≡ p.told

-- a number below the next one that no node has is given to no node again, over any steps without a done state restore (R49)
abbrev pub NeverAgainOfBytes : Type 0
NeverAgainOfBytes = (mem : List ℕ) → laid mem ≡ true → (x : ℕ) → x < (view mem).tree.next → node_in (view mem).tree.nodes x ≡ None
    → (ss : List Step) → Run mem ss → NoStateRestores ss → node_in (view (last_of mem ss)).tree.nodes x ≡ None
