-- The mount is written for the root, or in the row that has the number.
use mathlib.Core.Path.{sym, ◌∙◌}
use native.Mathlib.Omega.{arith}
use Rattle.tables.specs.Answer.{mount_of_point}
use Rattle.tables.proofs.RowOf.{row_below}
use Rattle.tables.proofs.Writes.{put_root_mount, put_row_mount}
use Rattle.tables.proofs.ByPlace.{row_else, set_root, set_found, set_missing}
use Rattle.tables.proofs.mounts.set.Goals as goal

pub returns-then-x-eq-ROOT_ID : goal.returns-then-x-eq-ROOT_ID
returns-then-x-eq-ROOT_ID c = c.write.ensures ∙ put_root_mount _ (mount_of_point c.args.m) ∙ sym (set_root _ _ _ c.if-x-eq-ROOT_ID.true)

pub row_cells-at-requires : goal.row_cells-at-requires
row_cells-at-requires c =
    let h = row_below _ _ _ (sym (c.requires.row_of ∙ row_else _ _ c.if-x-eq-ROOT_ID.false) ∙ c.in-Some.is) in
    (omega (arith, c.capacity.ensures, c.requires.bounds.few_nodes), omega (arith, h, c.capacity.ensures, c.requires.bounds.live))

pub write-requires-in-Some-clause-within : goal.write-requires-in-Some-clause-within
write-requires-in-Some-clause-within c =
    let h = row_below _ _ _ (sym (c.requires.row_of ∙ row_else _ _ c.if-x-eq-ROOT_ID.false) ∙ c.in-Some.is) in
    rw (c.row_cells-at.ensures, c.capacity.ensures) (omega (arith, h, c.requires.bounds.live, c.requires.bounds.long))

pub returns-in-Some : goal.returns-in-Some
returns-in-Some c =
    let n = c.if-x-eq-ROOT_ID.false in
    c.write-in-Some.ensures
    ∙ rw (c.row_cells-at.ensures, c.capacity.ensures)
    (put_row_mount _ _ (mount_of_point c.args.m) ∙ sym (set_found _ _ _ n _ (sym (c.requires.row_of ∙ row_else _ _ n) ∙ c.in-Some.is)))

pub returns-in_default : goal.returns-in_default
returns-in_default c =
    let n = c.if-x-eq-ROOT_ID.false in
    sym (set_missing _ _ _ n (sym (c.requires.row_of ∙ row_else _ _ n) ∙ c.in_default.is))
