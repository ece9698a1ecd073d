-- The root's mount and the root, or mount and parent of the row that has the number, and that row.
use mathlib.Core.Path.{sym, ◌∙◌}
use Rattle.tables.proofs.RowOf.{row_below}
use Rattle.tables.proofs.ByPlace.{row_root, row_else, mount_root, mount_found, mount_missing, parent_root, parent_found, parent_missing}
use Rattle.tables.proofs.mounts.with_parent.Goals as goal

pub returns-then-x-eq-ROOT_ID : goal.returns-then-x-eq-ROOT_ID
returns-then-x-eq-ROOT_ID c =
    let r = c.if-x-eq-ROOT_ID.true in
    record { mount = c.of_root.ensures ∙ sym (mount_root _ _ r); parent = sym (parent_root _ _ r); row = row_root _ _ r }

pub of_row-requires-clause-i_bound : goal.of_row-requires-clause-i_bound
of_row-requires-clause-i_bound c = row_below _ _ _ (sym c.in-Some.ensures)

pub parent-requires-clause-i_bound : goal.parent-requires-clause-i_bound
parent-requires-clause-i_bound c = row_below _ _ _ (sym c.in-Some.ensures)

pub returns-in-Some : goal.returns-in-Some
returns-in-Some c =
    let p = sym c.in-Some.ensures in
    let n = c.if-x-eq-ROOT_ID.false in
    record { mount = c.of_row.ensures ∙ sym (mount_found _ _ n _ p); parent = c.parent.ensures ∙ sym (parent_found _ _ n _ p); row = sym (row_else _ _ n ∙ p) }

pub returns-in-None : goal.returns-in-None
returns-in-None c =
    let p = sym c.in-None.ensures in
    let n = c.if-x-eq-ROOT_ID.false in
    record { mount = sym (mount_missing _ _ n p); parent = sym (parent_missing _ _ n p); row = sym (row_else _ _ n ∙ p) }
