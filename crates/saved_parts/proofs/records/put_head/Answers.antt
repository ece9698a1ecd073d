-- `saved_parts::records::put_head` meets its contract. Assumes nothing.
use mathlib.Core.Path.{◌∙◌}
use Rattle.saved_parts.proofs.Puts.{head_put}
use Rattle.saved_parts.proofs.records.put_head.Goals as goal

pub returns : goal.returns
returns c =
    let a = c.args in
    c.put_u16.ensures ∙ rw (c.put_u64-2.ensures, c.put_u64.ensures) (head_put a.out.now a.number a.parent a.len)
