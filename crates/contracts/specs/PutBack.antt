-- A kept number over a restart, of bytes: where its mount is put back as a root query told it before the save, a route of the number tells what it told then.
use Rattle.std.specs.Prelude.{ℕ, ◌<◌, List, [], ◌∷◌, ◌⊎◌, ◌≡◌, Some}
use Rattle.rules.specs.Numbers.{DONE, NOENT, index_of, number_of}
use Rattle.rules.specs.Outcome.{rootfs, to_backend}
use Rattle.rules.specs.Mount.{Request}
use Rattle.rules.specs.Calls.{restore_mount, set_remove_pseudo_root, ask, get_rootfs, route}
use Rattle.rules.specs.claims.Driven.{Driven}
use Rattle.rules.specs.claims.Laps.{Has}
use Rattle.rules.specs.claims.PutBack.{Sound}
use Rattle.tables.specs.View.{view}
use Rattle.call_form.specs.Form.{tells, refuses}
use Rattle.vfs.specs.Runs.{Step, Allowed, Run, last_of}
use Rattle.contracts.specs.Answers.{NoneGives}
use Rattle.contracts.specs.Lives.{RestartedOfBytes}

-- ---- what a host has seen

-- on the bytes mem a root query of the path told the tag t and the index k (R103)
pub record Queried (mem path : List ℕ) (t k : ℕ) : Type 0 where
  pub step : Step
  pub allowed : Allowed step
  pub on : step.before ≡ mem
  pub call : step.call ≡ ask (get_rootfs path)
  pub told : step.told ≡ tells (rootfs (Some (t, k)))

-- a restored mount at k tells that it is done; of its path a root query on mem told its tag and k (R91, R93)
pub record PutsBackOfBytes (mem : List ℕ) (k : ℕ) (s : Step) : Type 0 where
  pub request : Request
  pub call : s.call ≡ restore_mount k request
  pub done : s.told.code ≡ DONE
  pub stood : Queried mem request.path request.tag k

-- a step that leaves every byte, as each query does, or that sets the remove flag (R32)
abbrev pub AsideOfBytes : Step → Type 0
AsideOfBytes s = (s.after ≡ s.before) ⊎ (s.call ≡ set_remove_pseudo_root)

-- steps that put mounts of mem back, at these indexes and in this order; others may stand among them
pub data PuttingOfBytes (mem : List ℕ) : List Step → List ℕ → Type 0 where
  none_left : PuttingOfBytes mem [] []
  one_back : (s : Step) (ss : List Step) (k : ℕ) (ks : List ℕ) → PutsBackOfBytes mem k s → PuttingOfBytes mem ss ks → PuttingOfBytes mem (s ∷ ss) (k ∷ ks)
  one_aside : (s : Step) (ss : List Step) (ks : List ℕ) → AsideOfBytes s → PuttingOfBytes mem ss ks → PuttingOfBytes mem (s ∷ ss) ks

-- mem is saved; a restore into storage that stands for a driven instance is done, and leaves start; then steps put mounts of mem back at the indexes ks (R127, R134)
pub record BackOfBytes (mem start : List ℕ) (ss : List Step) (ks : List ℕ) : Type 0 where
  pub restarted : RestartedOfBytes mem start
  pub fresh : Driven (view restarted.step.before)
  pub run : Run start ss
  pub put : PuttingOfBytes mem ss ks

-- ---- the claims

-- on any bytes: a number of the index that a root query told, from 1 on, is routed to the tag that it told (R103, R106)
abbrev pub EveryQueried : Type 0
EveryQueried = (mem path : List ℕ) (t x : ℕ) → 0 < index_of x → Queried mem path t (index_of x)
    → (p : Step) → Allowed p → p.before ≡ mem → p.call ≡ ask (route x) → p.told ≡ tells (to_backend t (index_of x) (number_of x))

-- a number with an index from 1 on whose mount is put back, if a route of it on mem led anywhere: a route of it now tells the same (R106)
abbrev pub EveryBackOfAnswers : Type 0
EveryBackOfAnswers = (mem start : List ℕ) (ss : List Step) (ks : List ℕ) → BackOfBytes mem start ss ks → (x : ℕ) → 0 < index_of x
    → (p : Step) → Allowed p → p.before ≡ mem → p.call ≡ ask (route x) → (p.told.code ≡ DONE → Has (index_of x) ks)
    → (q : Step) → Allowed q → q.before ≡ last_of start ss → q.call ≡ ask (route x) → q.told ≡ p.told

-- any other with an index from 1 on is refused, as long as no later step gives its index away (R106, R127)
abbrev pub EveryLeftOutOfAnswers : Type 0
EveryLeftOutOfAnswers = (mem start : List ℕ) (ss : List Step) (ks : List ℕ) → BackOfBytes mem start ss ks → (x : ℕ) → 0 < index_of x → (Has (index_of x) ks → ⊥)
    → (rs : List Step) → Run (last_of start ss) rs → NoneGives (index_of x) rs
    → (q : Step) → Allowed q → q.before ≡ last_of (last_of start ss) rs → q.call ≡ ask (route x) → q.told ≡ refuses NOENT

-- a restored mount of a request that has no fault of its own, by a path where a root query on mem told a mount, is done at any index from 1 on: no room is needed (R50, R91)
abbrev pub EveryPutBackOfAnswers : Type 0
EveryPutBackOfAnswers = (mem start : List ℕ) (ss : List Step) (ks : List ℕ) → BackOfBytes mem start ss ks → (r : Request) → Sound r → (t n : ℕ) → Queried mem r.path t n
    → (k : ℕ) → 0 < k → (q : Step) → Allowed q → q.before ≡ last_of start ss → q.call ≡ restore_mount k r → q.told.code ≡ DONE
