-- The slot is read; then the mount is taken off, the node taken out or not, and the slot emptied. Assumes nothing.
use borrow.Author.Rules.{rules}
use Rattle.placing.proofs.Returns.{laid_mounted, row_mounted, takes_off}
use native.Mathlib.Omega.{arith}
use Rattle.tables.proofs.Keeps.{laid_long, laid_is}
use Rattle.placing.proofs.take_off.Goals as goal

pub tag_of-tag-requires : goal.tag_of-tag-requires
tag_of-tag-requires c = search (laid_long, laid_is, rules)

pub clear-requires : goal.clear-requires
clear-requires c = record { bounds = search (laid_is, rules); row_of = search rules }

pub take_out-requires : goal.take_out-requires
take_out-requires c = record { s_value = search (laid_mounted, rules); row_of = search (row_mounted, rules) }

pub free-requires : goal.free-requires
free-requires c = omega (arith, laid_long _ c.requires.s_value)

pub returns : goal.returns
returns c = takes_off _ _ _ _ _ _ _ (search rules) c.tag_of-tag.ensures c.clear.ensures c.take_out.ensures c.free.ensures
