-- The bytes before `rest` are passed: the test holds at none of them.
use Rattle.std.specs.List.{list_any}
use Rattle.std.specs.Prelude.{◌≡◌, ◌≤◌, ◌-◌, ℕ, Bool, length, drop}
use Rattle.scan.specs.Bytes.{Says}
use Rattle.scan.proofs.bytes.any_byte.Given as goal

abbrev pub invariant-loop-eight : goal.invariant-loop-eight
invariant-loop-eight g l =
    goal.F-IsAlwaysCallable g l.test
    × (length l.rest ≤ length l.s)
    × (l.rest ≡ drop (length l.s - length l.rest) l.s)
    × ((f : ℕ → Bool) → Says (goal.F-post g l.test) f → list_any f l.s ≡ list_any f l.rest)

abbrev pub decreases-loop-eight : goal.decreases-loop-eight
decreases-loop-eight g l = length l.rest
