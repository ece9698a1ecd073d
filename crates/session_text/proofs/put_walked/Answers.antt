-- `session_text::put_walked` meets its contract: the numbers that are laid down are those that the line shows.
use borrow.Author.Rules.{rules}
use Rattle.session_text.proofs.Numbers.{walk_of, shows}
use Rattle.session_text.proofs.put_walked.Goals as goal

pub put_numbers-requires : goal.put_numbers-requires
put_numbers-requires c = let s = walk_of _ _ c.walked-a.ensures in search rules

pub returns : goal.returns
returns c = shows (walk_of _ _ c.walked-a.ensures) c.put_numbers.ensures
