-- `saved_parts::trailer::put_trailer` meets its contract. Assumes nothing.
use mathlib.Core.Path.{◌∙◌}
use Rattle.saved_parts.proofs.Puts.{trailer_put}
use Rattle.saved_parts.proofs.trailer.put_trailer.Goals as goal

pub returns : goal.returns
returns c =
    let a = c.args in
    c.put_u32-3.ensures ∙ (rw (c.put_u16.ensures, c.put_u8-2.ensures, c.put_u8.ensures, c.put_u64.ensures, c.put_u32-2.ensures, c.put_u32.ensures) (trailer_put a.out.now a.at a.offset a.count a.next a.counter))
