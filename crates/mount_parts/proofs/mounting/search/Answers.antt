-- The lent bytes are the occupancy bytes of the slots, and the search begins at the counter.
use Rattle.tables.proofs.Indexes.{searched}
use borrow.Author.Rules.{rules}
use Rattle.mount_parts.proofs.mounting.search.Goals as goal

pub returns : goal.returns
returns c = searched c.args.s.now _ c.counter-c.result c.allocate_fs_idx.ensures c.counter-c.ensures (search rules)
