-- `utf8::valid_to` meets its contract. The invariant: what is passed and what the rest has make the whole. Assumes nothing.
use mathlib.Core.Path.{◌≡◌}
use Prim.Native.Nat.{◌≤◌, ◌-◌, ◌+◌}
use lib.ListN.{length, drop}
use Rattle.rules.specs.Utf8.{valid_to}
use Rattle.utf8.proofs.valid_to.Given as goal

abbrev pub invariant-loop-n : goal.invariant-loop-n
invariant-loop-n l = (l.at ≤ length l.s) × (l.at + valid_to (drop l.at l.s) ≡ valid_to l.s)

abbrev pub decreases-loop-n : goal.decreases-loop-n
decreases-loop-n l = length l.s - l.at
