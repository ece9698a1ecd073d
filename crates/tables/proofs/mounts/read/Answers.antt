-- The index is the upper byte of the word: 0 is none.
use borrow.Author.Tests.{eq-eqb, ne_eqb}
use Rattle.tables.specs.View.{mount_from_cells}
use Rattle.tables.proofs.mounts.read.Goals as goal

pub returns-then-index-eq0 : goal.returns-then-index-eq0
unfolding mount_from_cells
returns-then-index-eq0 c = rw (eq-eqb _ 0 (rw c.get_u64-word.ensures at c.if-index-eq0.true))

pub returns : goal.returns
unfolding mount_from_cells
returns c = rw (c.get_u64-word.ensures, c.get_u32.ensures, c.get_u32-2.ensures, c.get_u32-3.ensures, ne_eqb _ 0 (rw c.get_u64-word.ensures at c.if-index-eq0.false))
