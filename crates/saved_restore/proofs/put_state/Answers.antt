-- The options stand among the other fields of the header. Assumes nothing.
use mathlib.Core.Path.{◌∙◌}
use Rattle.vfs_options.specs.Given.{options_in}
use Rattle.saved_restore.proofs.StateHead.{state_put}
use Rattle.saved_restore.proofs.put_state.Goals as goal

pub returns : goal.returns
returns c =
    let a = c.args in
    c.put_u8-2.ensures ∙ (rw (c.put_u8.ensures, c.put_options.ensures, c.put_u64.ensures, c.from.ensures) (state_put a.s.now a.next a.counter (options_in a.o)))
