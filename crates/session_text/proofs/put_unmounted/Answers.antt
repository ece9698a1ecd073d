-- `session_text::put_unmounted` meets its contract: the numbers that are laid down are those that the line shows.
use borrow.Author.Rules.{rules}
use Rattle.session_text.proofs.Numbers.{umount_of, shows}
use Rattle.session_text.proofs.put_unmounted.Goals as goal

pub put_numbers-requires : goal.put_numbers-requires
put_numbers-requires c = let s = umount_of _ _ c.unmounted-a.ensures in search rules

pub returns : goal.returns
returns c = shows (umount_of _ _ c.unmounted-a.ensures) c.put_numbers.ensures
