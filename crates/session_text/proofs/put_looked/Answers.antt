-- `session_text::put_looked` meets its contract: the numbers that are laid down are those that the line shows.
use borrow.Author.Rules.{rules}
use Rattle.session_text.proofs.Numbers.{lookup_of, shows}
use Rattle.session_text.proofs.put_looked.Goals as goal

pub put_numbers-requires : goal.put_numbers-requires
put_numbers-requires c = let s = lookup_of _ _ c.looked-a.ensures in search rules

pub returns : goal.returns
returns c = shows (lookup_of _ _ c.looked-a.ensures) c.put_numbers.ensures
