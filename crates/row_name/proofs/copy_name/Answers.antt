-- A name of up to seven bytes is copied in one run, a longer one in two.
use Rattle.row_name.proofs.Names.{name_short, copied_short, copied_long}
use borrow.Author.Rules.{rules}
use Rattle.row_name.proofs.copy_name.Goals as goal

pub returns-then-len-le7 : goal.returns-then-len-le7
returns-then-len-le7 c =
    copied_short _ _ _ _ _ _ c.name_len-len.ensures c.if-len-le7.true _ (rw (c.at-at.ensures, c.capacity.ensures) at c.copy_few.ensures)

pub copy_front-requires : goal.copy_front-requires
copy_front-requires c = let h = name_short _ _ _ _ c.name_len-len.ensures in search rules

pub returns : goal.returns
returns c =
    copied_long _ _ _ _ _ _ c.name_len-len.ensures (search rules) _ _ (rw (c.first_at.ensures, c.max.ensures) at c.copy_front.ensures) (rw (c.at-at.ensures, c.capacity.ensures) at c.copy_run.ensures)
