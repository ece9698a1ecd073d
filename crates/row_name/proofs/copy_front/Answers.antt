-- The number is the eight bytes.
use mathlib.Core.Path.{◌∙◌}
use Rattle.row_name.proofs.Runs.{as_number}
use Rattle.row_name.proofs.copy_front.Goals as goal

pub returns-then-len-eq8 : goal.returns-then-len-eq8
returns-then-len-eq8 c = rw c.if-len-eq8.true (c.put_u64.ensures ∙ as_number _ (λ i. (c.type_inv.src i).fits) _ _ _ _ c.get_u64.ensures)
