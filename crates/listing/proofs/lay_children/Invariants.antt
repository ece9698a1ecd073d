-- After i rows, the children among the others are to be laid behind what is written; a law for each way round, and where the ways meet one for all.
use Rattle.listing.proofs.Rest.{Listing}
use Rattle.listing.proofs.lay_children.Given as goal

abbrev pub invariant-loop-i : goal.invariant-loop-i
invariant-loop-i l = Listing l.s l.x l.offset l.end l.count l.initial.out l.out l.at l.place l.i
