-- `session_text::put_mounted` meets its contract: the numbers that are laid down are those that the line shows.
use borrow.Author.Rules.{rules}
use Rattle.session_text.proofs.Numbers.{mount_of, shows}
use Rattle.session_text.proofs.put_mounted.Goals as goal

pub put_numbers-requires : goal.put_numbers-requires
put_numbers-requires c = let s = mount_of _ _ c.mounted-a.ensures in search rules

pub returns : goal.returns
returns c = shows (mount_of _ _ c.mounted-a.ensures) c.put_numbers.ensures
