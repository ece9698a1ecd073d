-- `session_calls::look_line` meets its contract: each return goes by where the number is routed.
use mathlib.Core.Path.{ap, ◌∙◌}
use Rattle.std.specs.Prelude.{Ok}
use Rattle.session_calls.proofs.Lines.{look_tree, look_backend, look_refused}
use Rattle.session_calls.proofs.look_line.Goals as goal

pub returns-in-Ok-Tree : goal.returns-in-Ok-Tree
returns-in-Ok-Tree c =
    look_tree _ _ _ _ _ _ c.route.ensures _ _ (c.in-Ok-Tree.is ∙ ap Ok c.in-Ok-Tree.field-0-is) c.lookup.ensures c.put_looked.ensures

pub returns-in-Ok-Backend : goal.returns-in-Ok-Backend
returns-in-Ok-Backend c =
    look_backend _ _ _ _ _ _ c.route.ensures _ _ _ (c.in-Ok-Backend.is ∙ ap Ok c.in-Ok-Backend.field-0-is) c.put_backend.ensures

pub returns-in-Err : goal.returns-in-Err
returns-in-Err c = look_refused _ _ _ _ _ _ c.route.ensures _ c.in-Err.is (rw c.code.ensures at c.put_numbers.ensures)
