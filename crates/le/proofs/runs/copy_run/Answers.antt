-- The part that is written over then holds the run.
use mathlib.Core.Path.{◌∙◌}
use Rattle.rules.proofs.Fields.{length_read}
use Rattle.le.proofs.Slices.{part_run, part_written}
use borrow.Author.Rules.{rules}
use Rattle.le.proofs.runs.copy_run.Goals as goal

pub returns : goal.returns
returns c =
    let a = c.args in
    part_written a.dst.now _ _ a.at a.len (search rules) (length_read a.src.now a.from a.len) (c.copy_from_slice.ensures.after ∙ part_run a.src.now a.from a.len (search rules))
