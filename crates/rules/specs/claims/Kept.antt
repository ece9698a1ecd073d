-- What becomes of a number that a caller keeps: it leads into its own mount or nowhere until a call gives its index away, and there as long as its mount stands.
use Rattle.std.specs.Prelude.{ℕ, ◌<◌, ◌⊎◌, List, [], ◌∷◌, ◌≡◌, length, Option, None, Some}
use Rattle.rules.specs.Numbers.{before, index_of, number_of, NOENT}
use Rattle.rules.specs.Instance.{Instance, counter_of, empty_slot, slot_of}
use Rattle.rules.specs.Outcome.{to_backend, Outcome, refused, says}
use Rattle.rules.specs.Tree.{Mount}
use Rattle.rules.specs.Mount.{Request, ended_mount}
use Rattle.rules.specs.Reached.{reached, reached_mount}
use Rattle.rules.specs.Calls.{Call, mount, restore_mount, umount, set_remove_pseudo_root, restore_from_bytes, ask, route, rule}
use Rattle.rules.specs.claims.Laps.{SearchStep, total, Has}
use Rattle.rules.specs.claims.Trace.{WithoutStateRestore, after_all, steps_of}

-- ---- indexes that calls give away

-- the index that a restored mount names (R91)
abbrev pub named : Call → Option ℕ
named (restore_mount k r) = Some k
named (mount r) = None
named (umount path) = None
named set_remove_pseudo_root = None
named (restore_from_bytes b) = None
named (ask q) = None

-- the indexes that the calls name in restored mounts, one after another
unfoldable pub named_in : List Call → List ℕ
named_in [] = []
named_in (c ∷ cs) = before (named c) (named_in cs)

-- the indexes that the steps hand out, one after another (R85)
unfoldable pub indexes_handed_out : List SearchStep → List ℕ
indexes_handed_out [] = []
indexes_handed_out (s ∷ ss) = before s.found (indexes_handed_out ss)

-- the call is done and gives k away: a mount hands it out, or a restored mount names it (R76, R85, R93)
abbrev pub Gives : ℕ → Call → Outcome → Type 0
Gives k c o = (o.code ≡ 0) × ((o.found ≡ Some k) ⊎ (named c ≡ Some k))

-- no call gives k away, each on what the one before left
unfoldable pub Ungiven : ℕ → Instance → List Call → Type 0
Ungiven k i [] = Unit {0}
Ungiven k i (c ∷ cs) = (Gives k c (rule i c) → ⊥) × Ungiven k (rule i c).after cs

-- ---- mounts that calls take off

-- the mount that stands where a mount, a restored mount or an unmount leads to; a done one takes it off (R76, R93, R98)
abbrev pub old_mount : Instance → Call → Option Mount
old_mount i (mount r) = ended_mount i r.path
old_mount i (restore_mount k r) = ended_mount i r.path
old_mount i (umount path) = reached_mount i (reached i path)
old_mount i set_remove_pseudo_root = None
old_mount i (restore_from_bytes b) = None
old_mount i (ask q) = None

-- the index of a mount, if there is one
abbrev pub index_in : Option Mount → Option ℕ
index_in None = None
index_in (Some m) = Some m.index

-- the call is done and ends the mount of k: it takes a mount of that index off, or is a restored mount that names it (R76, R93, R98)
abbrev pub Ends : ℕ → Instance → Call → Outcome → Type 0
Ends k i c o = (o.code ≡ 0) × ((index_in (old_mount i c) ≡ Some k) ⊎ (named c ≡ Some k))

-- no call ends the mount of k, each on what the one before left
unfoldable pub Standing : ℕ → Instance → List Call → Type 0
Standing k i [] = Unit {0}
Standing k i (c ∷ cs) = (Ends k i c (rule i c) → ⊥) × Standing k (rule i c).after cs

-- ---- what changes a slot

-- the slot of j after a call: as it was; or the call is done, and empties it by taking a mount of that index off, or hands j out, or names it in a restored mount
-- (R56, R76, R85, R93, R98)
pub data SlotAfter (i : Instance) (c : Call) (o : Outcome) (j : ℕ) : Type 0 where
  same_slot : slot_of o.after j ≡ slot_of i j → SlotAfter i c o j
  emptied : o.code ≡ 0 → index_in (old_mount i c) ≡ Some j → slot_of o.after j ≡ empty_slot → SlotAfter i c o j
  handed_out : o.code ≡ 0 → o.found ≡ Some j → SlotAfter i c o j
  by_restored : o.code ≡ 0 → named c ≡ Some j → SlotAfter i c o j

-- of every call on every instance
abbrev pub EverySlot : Type 0
EverySlot = (i : Instance) (c : Call) (j : ℕ) → SlotAfter i c (rule i c) j

-- ---- where a kept number leads

-- the full number x leads into the backend of the tag t, or nowhere (R106)
abbrev pub LeadsTo : Instance → ℕ → ℕ → Type 0
LeadsTo i x t = (rule i (ask (route x)) ≡ refused NOENT i) ⊎ (rule i (ask (route x)) ≡ says (to_backend t (index_of x) (number_of x)) i)

-- on tables with a counter that is a byte and 256 slots, a mount was done, and handed k out (R31, R75, R85)
pub record MountedAt (i : Instance) (r : Request) (k : ℕ) : Type 0 where
  pub counter : counter_of i < 256
  pub slots : length i.indexes.slots ≡ 256
  pub done : (rule i (mount r)).code ≡ 0
  pub found : (rule i (mount r)).found ≡ Some k

-- a number of its index leads into that mount's backend at once (R76, R106)
abbrev pub EveryNew : Type 0
EveryNew = (i : Instance) (r : Request) (k : ℕ) → MountedAt i r k → (x : ℕ) → index_of x ≡ k
    → rule (rule i (mount r)).after (ask (route x)) ≡ says (to_backend r.tag (index_of x) (number_of x)) (rule i (mount r)).after

-- a number with an index from 1 on that leads into the backend of the tag t does so as long as its mount stands: on any tables, over any calls, however many (R76, R93, R98, R106)
abbrev pub EveryStanding : Type 0
EveryStanding = (i : Instance) (x t : ℕ) → 0 < index_of x → (rule i (ask (route x))).answer ≡ to_backend t (index_of x) (number_of x)
    → (cs : List Call) → Standing (index_of x) i cs → rule (after_all i cs) (ask (route x)) ≡ says (to_backend t (index_of x) (number_of x)) (after_all i cs)

-- a done call takes a mount of the number's index off; then the number is refused as long as no call, that one included, gives the index away (R76, R93, R98, R106)
abbrev pub EveryGone : Type 0
EveryGone = (i : Instance) (c : Call) (x : ℕ) → 0 < index_of x → (rule i c).code ≡ 0 → index_in (old_mount i c) ≡ Some (index_of x)
    → (cs : List Call) → Ungiven (index_of x) i (c ∷ cs) → rule (after_all i (c ∷ cs)) (ask (route x)) ≡ refused NOENT (after_all i (c ∷ cs))

-- a number of its index leads into that mount's backend or nowhere, as long as no call gives the index away (R76, R85, R93, R106)
abbrev pub EveryOwn : Type 0
EveryOwn = (i : Instance) (r : Request) (k : ℕ) → MountedAt i r k → (cs : List Call) → Ungiven k (rule i (mount r)).after cs
    → (x : ℕ) → index_of x ≡ k → LeadsTo (after_all (rule i (mount r)).after cs) x r.tag

-- and so as long as the counts sum to less than 256, with no done state restore and no restored mount that names the index (R82, R87, R106)
abbrev pub EveryKept : Type 0
EveryKept = (i : Instance) (r : Request) (k : ℕ) → MountedAt i r k → (cs : List Call) → WithoutStateRestore (rule i (mount r)).after cs
    → (Has k (named_in cs) → ⊥) → total (steps_of (rule i (mount r)).after cs) < 256
    → (x : ℕ) → index_of x ≡ k → LeadsTo (after_all (rule i (mount r)).after cs) x r.tag

-- a number with an index from 1 on that led into the backend of the tag t, and whose index no call gave away since, leads there still if it leads anywhere; on any
-- tables, over any calls, state restores among them: a gateway that marks an index anew at each call that gives it away can judge a number by the mark (R76, R85, R93, R106)
abbrev pub EveryJudged : Type 0
EveryJudged = (i : Instance) (x t : ℕ) → 0 < index_of x → (rule i (ask (route x))).answer ≡ to_backend t (index_of x) (number_of x)
    → (cs : List Call) → Ungiven (index_of x) i cs → (rule (after_all i cs) (ask (route x))).code ≡ 0
    → (rule (after_all i cs) (ask (route x))).answer ≡ to_backend t (index_of x) (number_of x)
