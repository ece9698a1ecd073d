-- The name by its length: none, the number above the lowest byte of its cell, or the bytes of the other cell and seven of that number.
use mathlib.Core.Path.{◌∙◌}
use native.Mathlib.Omega.{arith}
use Rattle.rules.specs.Fields.{bytes_of}
use Rattle.row_name.proofs.Names.{cell_name, cell_names}
use Rattle.listing.proofs.Names.{named}
use borrow.Author.Rules.{rules}
use Rattle.listing.proofs.lay_row.Goals as goal

pub returns-then-len-eq0 : goal.returns-then-len-eq0
unfolding bytes_of
returns-then-len-eq0 c =
    let e = cell_name _ _ _ _ c.name_cell-cell.ensures (λ i. (c.type_inv.s i).fits) (omega (arith, c.if-len-eq0.true)) in
    named _ _ _ _ _ c.number-x.ensures (e ∙ rw c.if-len-eq0.true) _ _ _ c.write_dirent.ensures

pub returns-then-len-le7 : goal.returns-then-len-le7
returns-then-len-le7 c =
    named _ _ _ _ _ c.number-x.ensures
    (cell_name _ _ _ _ c.name_cell-cell.ensures (λ i. (c.type_inv.s i).fits) c.if-len-le7.true) _ _ _
    c.write_short.ensures

pub returns : goal.returns
returns c =
    named _ _ _ _ _ c.number-x.ensures
    (cell_names _ _ _ _ c.name_cell-cell.ensures (λ i. (c.type_inv.s i).fits) (search rules)) _ _ _
    (rw c.first_at-from.ensures at c.write_long.ensures)
