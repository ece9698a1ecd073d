-- The name is written in two parts.
use mathlib.Core.Path.{◌∙◌}
use Rattle.tables.proofs.Writes.{name_put}
use Rattle.tables.proofs.rows.put_name.Goals as goal

pub returns : goal.returns
returns c =
    let a = c.args in
    c.copy_run-2.ensures
    ∙ rw (c.copy_run.ensures, c.put_u8.ensures, c.at.ensures, c.at-at.ensures, c.saturating_sub-rest.ensures)
    (name_put a.s.now a.n a.i a.name.now)
