-- A read that brings nothing leaves all as it was; else the contracts of `feed_all` and `end` say it.
use mathlib.Core.Logic.{inl}
use Rattle.session.proofs.Feeding.{brought_none}
use Rattle.session.proofs.Session.turn.Goals as goal

pub returns-in-Err : goal.returns-in-Err
returns-in-Err c = inl (brought_none _ _ _ _ _ _)

pub returns-in-Err-2 : goal.returns-in-Err-2
returns-in-Err-2 c = inl (brought_none _ _ _ _ _ _)
