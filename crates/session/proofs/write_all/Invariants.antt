-- Once a turn is made there is something to write.
use Rattle.std.proofs.Common.{◌<◌, ◌≤◌, length}
use Rattle.session.proofs.write_all.Given as goal

abbrev pub invariant-loop : goal.invariant-loop
invariant-loop l = (length l.rest ≤ length l.bytes) × (0 < l.counter → 0 < length l.bytes)
