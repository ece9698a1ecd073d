-- `saved::are_sound` meets its contract. The invariant: the records that are left are sound where all are. Assumes nothing.
use Rattle.std.proofs.Common.{◌≡◌, ◌-◌, ◌≤◌}
use Rattle.saved.specs.Scan.{sound_to}
use Rattle.saved.proofs.are_sound.Given as goal

abbrev pub invariant-loop : goal.invariant-loop
invariant-loop l = (l.at ≤ l.to) × (sound_to l.b l.next l.to (l.count - l.counter) l.at l.last ≡ sound_to l.b l.next l.to l.count 0 1)
