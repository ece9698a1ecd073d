-- `index::allocate_fs_idx` meets its contract. The loop's invariant is `Going`: what is to be found from the counter is what is to be found from here.
-- Assumes nothing.
use Rattle.std.proofs.Common.{◌-◌}
use Rattle.rules.specs.Round.{free_of}
use Rattle.index.specs.Slots.{held_in_column}
use Rattle.index.proofs.Going.{Going}
use Rattle.index.proofs.allocate_fs_idx.Given as goal

abbrev pub invariant-loop-index : goal.invariant-loop-index
invariant-loop-index l = Going (free_of (held_in_column l.used)) l.next_super l.count l.next

abbrev pub decreases-loop-index : goal.decreases-loop-index
decreases-loop-index l = 257 - l.count
