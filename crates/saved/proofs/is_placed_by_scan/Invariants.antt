-- `saved::is_placed_by_scan` meets its contract. The invariant: of the records passed, whether one is the parent is known, and none is a twin.
-- Assumes nothing.
use Rattle.std.proofs.Common.{◌≡◌, length, false}
use Rattle.rules.specs.Saved.{saved_node_at, present, used}
use Rattle.saved.specs.Scan.{earlier}
use Rattle.saved.proofs.is_placed_by_scan.Given as goal

abbrev pub invariant-loop-p : goal.invariant-loop-p
invariant-loop-p l =
    (l.found ≡ present (saved_node_at l.b l.at).parent (earlier l.b (length l.yielded)))
    × (used (saved_node_at l.b l.at).parent (saved_node_at l.b l.at).name (earlier l.b (length l.yielded)) ≡ false)
