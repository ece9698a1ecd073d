-- How many mounts a lap takes at least.
use Rattle.std.specs.Prelude.{ℕ, zero, suc, ◌+◌, ◌≤◌, ◌<◌, Bool, cond, not, ◌&&◌, List, ◌≡◌, length, eqb, None, Some}
use Rattle.rules.specs.Instance.{Instance, counter_of, held_in}
use Rattle.rules.specs.Calls.{Call, rule}
use Rattle.rules.specs.claims.Laps.{last_found}
use Rattle.rules.specs.claims.Trace.{WithoutStateRestore, steps_of}
use Rattle.rules.specs.claims.Kept.{named_in, indexes_handed_out}

-- how many of the indexes from 1 to n are held, k left out
unfoldable pub others_held : (ℕ → Bool) → ℕ → ℕ → ℕ
others_held held k zero = 0
others_held held k (suc n) = cond (held (suc n) && not (eqb (suc n) k)) 1 0 + others_held held k n

-- a call handed k out, and the last of the calls after it hands k out again: the indexes handed out on the way, that of the last call included, are at least 255 less
-- the others that were held right after the first call, and less the restored mounts on the way (R88)
abbrev pub EveryWait : Type 0
EveryWait = (i : Instance) → counter_of i < 256 → (c : Call) (k : ℕ) → (rule i c).found ≡ Some k → (cs : List Call) → WithoutStateRestore (rule i c).after cs
    → last_found None (steps_of (rule i c).after cs) ≡ Some k
    → 255 ≤ length (indexes_handed_out (steps_of (rule i c).after cs)) + (others_held (held_in (rule i c).after) k 255 + length (named_in cs))
