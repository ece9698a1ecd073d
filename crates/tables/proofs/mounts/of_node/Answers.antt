-- The root's mount, or that of the row that has the number.
use mathlib.Core.Path.{sym, ◌∙◌}
use Rattle.tables.proofs.RowOf.{row_below}
use Rattle.tables.proofs.ByPlace.{mount_root, mount_found, mount_missing}
use Rattle.tables.proofs.mounts.of_node.Goals as goal

pub returns-then-x-eq-ROOT_ID : goal.returns-then-x-eq-ROOT_ID
returns-then-x-eq-ROOT_ID c = c.of_root.ensures ∙ sym (mount_root _ _ c.if-x-eq-ROOT_ID.true)

pub returns-in_err-find_row : goal.returns-in_err-find_row
returns-in_err-find_row c = rw c.from_residual.ensures (sym (mount_missing _ _ c.if-x-eq-ROOT_ID.false (sym c.in_err-find_row.ensures)))

pub of_row-requires-clause-i_bound : goal.of_row-requires-clause-i_bound
of_row-requires-clause-i_bound c = row_below _ _ _ (sym c.in_ok-find_row.ensures)

pub returns : goal.returns
returns c = c.of_row.ensures ∙ sym (mount_found _ _ c.if-x-eq-ROOT_ID.false _ (sym c.in_ok-find_row.ensures))
