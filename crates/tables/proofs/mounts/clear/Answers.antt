-- The word alone is written, of the root, or of the row that has the number.
use mathlib.Core.Path.{sym, ◌∙◌}
use native.Mathlib.Omega.{arith}
use Rattle.tables.proofs.RowOf.{row_below}
use Rattle.tables.proofs.ByPlace.{row_else, set_root, set_found, set_missing, clear_root, clear_row}
use Rattle.tables.proofs.mounts.clear.Goals as goal

pub returns-then-x-eq-ROOT_ID : goal.returns-then-x-eq-ROOT_ID
returns-then-x-eq-ROOT_ID c = c.put_u64.ensures ∙ sym (set_root _ _ _ c.if-x-eq-ROOT_ID.true ∙ clear_root _)

pub row_cells-at-requires : goal.row_cells-at-requires
row_cells-at-requires c =
    let h = row_below _ _ _ (sym (c.requires.row_of ∙ row_else _ _ c.if-x-eq-ROOT_ID.false) ∙ c.in-Some.is) in
    (omega (arith, c.capacity.ensures, c.requires.bounds.few_nodes), omega (arith, h, c.capacity.ensures, c.requires.bounds.live))

pub put_u64-requires-in-Some : goal.put_u64-requires-in-Some
put_u64-requires-in-Some c =
    let h = row_below _ _ _ (sym (c.requires.row_of ∙ row_else _ _ c.if-x-eq-ROOT_ID.false) ∙ c.in-Some.is) in
    rw (c.row_cells-at.ensures, c.capacity.ensures) (omega (arith, h, c.requires.bounds.live, c.requires.bounds.long))

pub returns-in-Some : goal.returns-in-Some
returns-in-Some c =
    let n = c.if-x-eq-ROOT_ID.false in
    c.put_u64-in-Some.ensures
    ∙ rw c.row_cells-at.ensures (sym (set_found _ _ _ n _ (sym (c.requires.row_of ∙ row_else _ _ n) ∙ c.in-Some.is) ∙ clear_row _ _ _ c.capacity.ensures))

pub returns-in_default : goal.returns-in_default
returns-in_default c =
    let n = c.if-x-eq-ROOT_ID.false in
    sym (set_missing _ _ _ n (sym (c.requires.row_of ∙ row_else _ _ n) ∙ c.in_default.is))
