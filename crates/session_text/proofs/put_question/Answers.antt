-- `session_text::put_question` meets its contract.
use Rattle.session_text.proofs.Writes.{question}
use Rattle.session_text.proofs.put_question.Goals as goal

pub returns : goal.returns
returns c = question _ _ c.put_byte.ensures
