-- All ones, shifted down.
use Rattle.scan.proofs.Keys.{mask_down}
use borrow.Author.Rules.{rules}
use Rattle.scan.proofs.names.mask_of.Goals as goal

pub returns : goal.returns
returns c = mask_down _ (search rules)
