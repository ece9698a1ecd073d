-- The feeds so far have led to what is left of the read.
use lib.ListN.{length}
use Rattle.session.proofs.Feeding.{SoFar}
use Rattle.session.proofs.Session.feed_all.Given as goal

abbrev pub invariant-loop-rest : goal.invariant-loop-rest
invariant-loop-rest l = SoFar 65536 l.initial.self.storage l.initial.self.carry l.initial.self.kept l.piece l.self.storage l.self.carry l.self.kept l.rest

abbrev pub decreases-loop-rest : goal.decreases-loop-rest
decreases-loop-rest l = length l.rest
