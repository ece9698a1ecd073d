-- A kept number over a restart: where its mount is put back at its index it leads where it led, and where it is not it is refused.
use Rattle.std.specs.Prelude.{ℕ, ◌≤◌, ◌<◌, true, false, List, [], ◌∷◌, ◌≡◌, Some}
use Rattle.rules.specs.Numbers.{max_ino, index_of, NOENT}
use Rattle.rules.specs.Utf8.{well_formed}
use Rattle.rules.specs.Path.{rooted, too_long}
use Rattle.rules.specs.Instance.{Instance, mount_of_node, tag_of, held_in}
use Rattle.rules.specs.Outcome.{Outcome, refused}
use Rattle.rules.specs.Mount.{Request}
use Rattle.rules.specs.Reached.{reached}
use Rattle.rules.specs.Calls.{Call, restore_mount, ask, route, rule}
use Rattle.rules.specs.claims.Driven.{IsAt, Driven}
use Rattle.rules.specs.claims.Laps.{Has}
use Rattle.rules.specs.claims.Trace.{after_all}
use Rattle.rules.specs.claims.Restart.{Restarted}
use Rattle.rules.specs.claims.Kept.{Ungiven}

-- on j, the call is a restored mount that is done, and puts a mount of i back: at its index k, by a path that leads to its node in i, with the tag that its slot holds there
-- (R91, R93)
pub record PutsBack (i j : Instance) (c : Call) (k : ℕ) : Type 0 where
  pub request : Request
  pub call : c ≡ restore_mount k request
  pub done : (rule j c).code ≡ 0
  pub node : ℕ
  pub leads : reached i request.path ≡ Some node
  pub stood : IsAt k (mount_of_node i.tree node)
  pub tag : tag_of i k ≡ Some request.tag

-- on j, the call leaves tree and slots as they are, such as a query or the setting of the remove flag
pub record Aside (j : Instance) (c : Call) : Type 0 where
  pub tree : (rule j c).after.tree ≡ j.tree
  pub slots : (rule j c).after.indexes.slots ≡ j.indexes.slots

-- calls on j, each on what the one before left: they put mounts of i back, at these indexes and in this order; the others among them leave tree and slots
pub data Putting (i : Instance) : Instance → List Call → List ℕ → Type 0 where
  none_left : (j : Instance) → Putting i j [] []
  one_back : (j : Instance) (c : Call) (cs : List Call) (k : ℕ) (ks : List ℕ) → PutsBack i j c k → Putting i (rule j c).after cs ks → Putting i j (c ∷ cs) (k ∷ ks)
  one_aside : (j : Instance) (c : Call) (cs : List Call) (ks : List ℕ) → Aside j c → Putting i (rule j c).after cs ks → Putting i j (c ∷ cs) ks

-- i is saved, and restored into f, which gives j; then calls put mounts of i back at the indexes ks (R127, R134)
pub record Back (i f j : Instance) (cs : List Call) (ks : List ℕ) : Type 0 where
  pub before : Driven i
  pub fresh : Driven f
  pub restored : Restarted i f j
  pub put : Putting i j cs ks

-- the same number and the same values
abbrev pub AnswersAs : Outcome → Outcome → Type 0
AnswersAs o p = (o.code ≡ p.code) × (o.answer ≡ p.answer)

-- a number with an index from 1 on at which a mount was put back is routed as before the save (R106)
abbrev pub EveryBack : Type 0
EveryBack = (i f j : Instance) (cs : List Call) (ks : List ℕ) → Back i f j cs ks → (x : ℕ) → 0 < index_of x → Has (index_of x) ks
    → AnswersAs (rule (after_all j cs) (ask (route x))) (rule i (ask (route x)))

-- any other with an index from 1 on is refused, as long as no later call gives its index away (R106, R127)
abbrev pub EveryLeftOut : Type 0
EveryLeftOut = (i f j : Instance) (cs : List Call) (ks : List ℕ) → Back i f j cs ks → (x : ℕ) → 0 < index_of x → (Has (index_of x) ks → ⊥)
    → (ds : List Call) → Ungiven (index_of x) (after_all j cs) ds → rule (after_all (after_all j cs) ds) (ask (route x)) ≡ refused NOENT (after_all (after_all j cs) ds)

-- where a mount is put back at each held index from 1 on, every number with an index from 1 on is routed as before the save (R106)
abbrev pub EveryAllBack : Type 0
EveryAllBack = (i f j : Instance) (cs : List Call) (ks : List ℕ) → Back i f j cs ks → ((k : ℕ) → 0 < k → held_in i k ≡ true → Has k ks)
    → (x : ℕ) → 0 < index_of x → AnswersAs (rule (after_all j cs) (ask (route x))) (rule i (ask (route x)))

-- a request that has no fault of its own (R91, R92)
pub record Sound (r : Request) : Type 0 where
  pub short : too_long r.path ≡ false
  pub utf8 : well_formed r.path ≡ true
  pub slash : rooted r.path ≡ true
  pub largest : r.largest ≤ max_ino
  pub root : r.root ≤ max_ino

-- by a path that led to a node of i such a request is put back at any index from 1 on, at any time: no room is needed (R50, R91)
abbrev pub EveryPutBack : Type 0
EveryPutBack = (i f j : Instance) (cs : List Call) (ks : List ℕ) → Back i f j cs ks → (r : Request) → Sound r → (x : ℕ) → reached i r.path ≡ Some x
    → (k : ℕ) → 0 < k → (rule (after_all j cs) (restore_mount k r)).code ≡ 0
