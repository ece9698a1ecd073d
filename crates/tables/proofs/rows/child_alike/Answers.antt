-- A name too long for a row, another parent, or the bytes before the last seven, which decide where the cell is that of the name.
use mathlib.Core.Path.{sym, ◌∙◌}
use Rattle.tables.specs.Layout.{capacity_of}
use Rattle.tables.specs.View.{node_at}
use Rattle.tables.proofs.Find.{child_else, child_named}
use Rattle.tables.proofs.Alike.{too_long_lem, alike_start}
use borrow.Author.Rules.{rules}
use Rattle.tables.proofs.rows.child_alike.Goals as goal

pub returns-then-name-gt-MAX_NAME : goal.returns-then-name-gt-MAX_NAME
returns-then-name-gt-MAX_NAME c = sym (too_long_lem _ _ _ _ (λ j. (c.type_inv.s j).fits) _ c.if-name-gt-MAX_NAME.true)

pub returns-then-parent-here : goal.returns-then-parent-here
returns-then-parent-here c = sym (child_else _ _ _ (λ e. c.if-parent-here.true (c.parent.ensures ∙ e)))

pub returns : goal.returns
returns c =
    let a = c.args in
    let mem = a.s.now in
    (rw (c.at.ensures, c.capacity-n.ensures) at c.same_start.ensures)
    ∙ sym (child_named a.here a.name.now (node_at (capacity_of mem) mem a.i) (sym c.parent.ensures ∙ c.if-parent-here.false)
    ∙ alike_start _ _ _ _ (λ j. (c.type_inv.s j).fits) (λ j. (c.type_inv.name j).fits) (search rules) (search rules))
