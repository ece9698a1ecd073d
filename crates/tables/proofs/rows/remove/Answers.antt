-- The rows are closed up, and then the number of nodes is written.
use mathlib.Core.Path.{◌∙◌}
use Rattle.tables.proofs.Writes.{removed}
use Rattle.tables.proofs.rows.remove.Goals as goal

pub returns : goal.returns
returns c =
    let a = c.args in
    c.put_u64.ensures ∙ rw (c.close_up.ensures, c.count-c.ensures, c.capacity-n.ensures) (removed a.s.now a.i)
