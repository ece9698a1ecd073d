-- `saved::key_at` meets its contract. Assumes nothing.
use Rattle.std.proofs.Common.{rules}
use Rattle.saved.specs.Kept.{key_at}
use Rattle.saved.proofs.key_at.Goals as goal

pub returns : goal.returns
unfolding key_at
returns c = search rules
