-- The node is taken out where removal is set and it has a row. Assumes nothing.
use borrow.Author.Rules.{rules}
use Rattle.placing.proofs.Returns.{row_of, stays_unset, goes, nothing_goes}
use Rattle.tables.proofs.Keeps.{laid_long, laid_is}
use mathlib.Core.Path.{ap}
use mathlib.Core.Bool.{not}
use Rattle.placing.proofs.take_out.Goals as goal

pub removes-requires : goal.removes-requires
removes-requires c = search (laid_long, laid_is, rules)

pub returns-then-not-removes : goal.returns-then-not-removes
returns-then-not-removes c = stays_unset _ _ _ c.removes.ensures (ap not c.if-not-removes.true)

pub remove-requires : goal.remove-requires
remove-requires c = search (row_of, laid_is, rules)

pub returns-in-Some : goal.returns-in-Some
returns-in-Some c =
    goes _ _ _ c.removes.ensures (ap not c.if-not-removes.false) _ _ _ (search rules) c.in-Some.is c.remove.ensures

pub returns-in_default : goal.returns-in_default
returns-in_default c = nothing_goes _ _ _ c.removes.ensures (ap not c.if-not-removes.false) _ (search rules) c.in_default.is
