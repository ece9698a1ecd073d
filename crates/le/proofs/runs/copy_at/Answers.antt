-- The part that is written over then holds src.
use mathlib.Core.Path.{refl}
use Rattle.le.proofs.Slices.{part_written}
use borrow.Author.Rules.{rules}
use Rattle.le.proofs.runs.copy_at.Goals as goal

pub returns : goal.returns
returns c = let a = c.args in part_written a.dst.now _ a.src.now a.at _ (search rules) refl c.copy_from_slice.ensures.after
