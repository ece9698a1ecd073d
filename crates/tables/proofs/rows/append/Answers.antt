-- The row is written behind the others, and then the number of nodes and the next number.
use mathlib.Core.Path.{◌∙◌}
use Rattle.tables.proofs.Writes.{appended}
use Rattle.tables.proofs.rows.append.Goals as goal

pub returns : goal.returns
returns c =
    let a = c.args in
    c.put_u64-2.ensures
    ∙ rw (c.put_u64.ensures, c.put_node.ensures, c.next-x.ensures, c.count-c.ensures, c.capacity-n.ensures) (appended a.s.now a.parent a.name.now)
