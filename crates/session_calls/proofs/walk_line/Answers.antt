-- `session_calls::walk_line` meets its contract.
use Rattle.session_calls.proofs.Lines.{walk_wrote}
use Rattle.session_calls.proofs.walk_line.Goals as goal

pub returns : goal.returns
returns c = walk_wrote _ _ _ _ _ c.path_walk.ensures c.put_walked.ensures
