-- `saved::are_placed` meets its contract: the first 1,023 records are kept, or all. Assumes nothing.
use Rattle.std.proofs.Common.{arith}
use Rattle.saved.proofs.Keeping.{part_whole}
use Rattle.saved.proofs.are_placed.Goals as goal

pub fill-requires : goal.fill-requires
fill-requires c = part_whole _ _ c.args.count _ (omega arith) c.requires
