-- `session_text::put_backend` meets its contract.
use Rattle.session_text.proofs.Writes.{backend}
use Rattle.session_text.proofs.put_backend.Goals as goal

pub returns : goal.returns
returns c = backend _ _ _ _ _ c.put_byte.ensures c.put_spaced.ensures
