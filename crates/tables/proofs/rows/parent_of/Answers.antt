-- The parent of the row that has the number, else the root.
use mathlib.Core.Path.{sym, ◌∙◌}
use Rattle.tables.proofs.RowOf.{row_below}
use Rattle.tables.proofs.ByPlace.{parent_root, parent_found, parent_missing}
use Rattle.tables.proofs.rows.parent_of.Goals as goal

pub returns-then-x-eq-ROOT_ID : goal.returns-then-x-eq-ROOT_ID
returns-then-x-eq-ROOT_ID c = sym (parent_root _ _ c.if-x-eq-ROOT_ID.true)

pub parent-requires-clause-i_bound : goal.parent-requires-clause-i_bound
parent-requires-clause-i_bound c = row_below _ _ _ (sym c.in-Some.ensures)

pub returns-in-Some : goal.returns-in-Some
returns-in-Some c = c.parent.ensures ∙ sym (parent_found _ _ c.if-x-eq-ROOT_ID.false _ (sym c.in-Some.ensures))

pub returns-in-None : goal.returns-in-None
returns-in-None c = sym (parent_missing _ _ c.if-x-eq-ROOT_ID.false (sym c.in-None.ensures))
