-- The old index is freed and the new slot read; then mount and slot are written. Assumes nothing.
use borrow.Author.Rules.{rules}
use native.Mathlib.Omega.{arith}
use Rattle.tables.proofs.Keeps.{laid_long, laid_is}
use Rattle.placing.proofs.Returns.{laid_freed, row_freed, places}
use Rattle.placing.proofs.place.Goals as goal

pub with_parent-here-requires : goal.with_parent-here-requires
with_parent-here-requires c = search (laid_is, rules)

pub tag_of-displaced-requires : goal.tag_of-displaced-requires
tag_of-displaced-requires c = omega (arith, laid_long _ c.requires.s_value)

pub set-requires : goal.set-requires
set-requires c = record { bounds = search (laid_freed, laid_is, rules); row_of = search (row_freed, rules); root_bound = search rules }

pub hold-requires : goal.hold-requires
hold-requires c = omega (arith, laid_long _ c.requires.s_value)

pub returns : goal.returns
returns c = search (places, rules)
