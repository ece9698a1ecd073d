-- The fields of the header, in their order. Assumes nothing.
use mathlib.Core.Path.{◌∙◌}
use Rattle.vfs_options.specs.Given.{options_in}
use Rattle.saved_restore.proofs.StateHead.{options_put}
use Rattle.saved_restore.proofs.put_options.Goals as goal

pub returns : goal.returns
returns c =
    let a = c.args in
    c.put_u8.ensures ∙ (rw (c.put_mapping.ensures, c.put_u64-2.ensures, c.put_u64.ensures) (options_put a.s.now (options_in a.o)))
