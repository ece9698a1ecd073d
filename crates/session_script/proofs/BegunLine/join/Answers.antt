-- What is copied, and how many are kept then.
use Rattle.session_script.proofs.Bytes.{joined_law}
use Rattle.session_script.proofs.BegunLine.join.Goals as goal

pub returns-clause-joined : goal.returns-clause-joined
returns-clause-joined c = rw (c.copy_at.ensures, c.min-self.ensures, c.min-fit.ensures, c.min-at.ensures) (joined_law _ _ _)
