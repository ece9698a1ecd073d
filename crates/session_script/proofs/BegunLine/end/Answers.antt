-- The line is answered, and nothing is kept.
use Rattle.session_script.proofs.Bytes.{took_end}
use Rattle.session_script.proofs.BegunLine.end.Goals as goal

pub returns-clause-took : goal.returns-clause-took
returns-clause-took c = took_end _ _ _ _ _ _ c.end_line.ensures
