-- The finish is done: the carry is accepted, and the output has room.
use borrow.Author.Rules.{rules}
use native.Mathlib.Omega.{arith}
use Rattle.session.proofs.Feeding.{end_ok, end_most, ends}
use Rattle.session.proofs.Session.end.Goals as goal

pub unwrap-wrote-requires : goal.unwrap-wrote-requires
unwrap-wrote-requires c = end_ok _ _ _ _ (omega arith) (omega arith) (omega arith) _ _ _ c.finish.ensures
