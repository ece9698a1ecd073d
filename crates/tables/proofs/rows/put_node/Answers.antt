-- The number, the parent, no mount, and the name are written.
use mathlib.Core.Path.{◌∙◌}
use Rattle.tables.proofs.Writes.{node_put}
use Rattle.tables.proofs.rows.put_node.Goals as goal

pub returns : goal.returns
returns c =
    let a = c.args in
    c.put_name.ensures
    ∙ rw (c.put_u64-3.ensures, c.put_u64-2.ensures, c.put_u64.ensures, c.at-2.ensures, c.at.ensures, c.number_at.ensures)
    (node_put a.s.now a.n a.i a.x a.parent a.name.now)
