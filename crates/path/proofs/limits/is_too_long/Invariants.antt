-- `path::limits::is_too_long` meets its contract. The invariant: a part from here on is too long where one of all is. Assumes nothing.
use mathlib.Core.Path.{◌≡◌}
use Prim.Native.Nat.{◌+◌, ◌-◌, ◌≤◌}
use lib.ListN.{length, drop}
use Rattle.rules.specs.Path.{pieces, any_longer}
use Rattle.path.proofs.limits.is_too_long.Given as goal

abbrev pub invariant-loop-i : goal.invariant-loop-i
invariant-loop-i l = (l.i ≤ length l.path + 1) × (any_longer 255 (pieces (drop l.i l.path)) ≡ any_longer 255 (pieces l.path))

abbrev pub decreases-loop-i : goal.decreases-loop-i
decreases-loop-i l = length l.path - l.i
