-- `index::new` meets its contract: each slot is one of 256 empty ones. Assumes nothing.
use Rattle.std.proofs.Common.{refl}
use lib.ListN.{get_or-replicate}
use Rattle.index.proofs.new.Goals as goal

pub returns : goal.returns
returns c = record { empty = λ k h. (get_or-replicate 256 k 0 1 h, get_or-replicate 256 k 0 1 h); counter = refl; whole = refl }
