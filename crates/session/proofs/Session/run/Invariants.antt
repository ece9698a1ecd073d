-- The turns so far have led to here.
use Rattle.session.proofs.Feeding.{Running}
use Rattle.session.proofs.Session.run.Given as goal

abbrev pub invariant-loop : goal.invariant-loop
invariant-loop l = Running 65536 l.initial.self.storage l.initial.self.carry 0 l.self.storage l.self.carry l.self.kept
