-- The cells 13 to 17 are written. Assumes nothing.
use mathlib.Core.Path.{◌∙◌}
use Rattle.storage.proofs.Creation.{bytes_put}
use Rattle.storage.proofs.put_rest.Goals as goal

pub returns : goal.returns
returns c =
    let a = c.args in
    c.put_u64.ensures ∙ rw (c.put_u8-4.ensures, c.put_u8-3.ensures, c.put_u8-2.ensures, c.put_u8.ensures) (bytes_put a.s.now a.flags)
