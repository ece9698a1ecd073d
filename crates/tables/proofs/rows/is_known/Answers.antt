-- The root is known, and so is a number that a row has.
use mathlib.Core.Path.{sym, ◌∙◌}
use Rattle.tables.proofs.ByPlace.{known_root, known_by_row, known_else}
use borrow.Author.Rules.{rules}
use Rattle.tables.proofs.rows.is_known.Goals as goal

pub returns-then-x-eq-ROOT_ID : goal.returns-then-x-eq-ROOT_ID
returns-then-x-eq-ROOT_ID c = sym (known_root _ _ c.if-x-eq-ROOT_ID.true)

pub returns-then-number-x : goal.returns-then-number-x
returns-then-number-x c = sym (known_by_row _ _ c.if-x-eq-ROOT_ID.false _ (search rules) (sym c.number.ensures ∙ c.if-number-x.true))

pub returns : goal.returns
returns c = c.is_some.ensures ∙ rw c.find_row.ensures (sym (known_else _ _ c.if-x-eq-ROOT_ID.false))
