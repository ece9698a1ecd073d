-- The options are those of the header. Assumes nothing.
use Rattle.saved_rows.proofs.put_options.Goals as goal

pub returns : goal.returns
returns c = rw c.options_in.ensures at c.put_options.ensures
