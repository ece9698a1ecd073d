-- A node, a mount on the root, or neither. Assumes nothing.
use Rattle.std.proofs.Common.{◌∙◌, ne_eqb, arith}
use Rattle.saved_restore.proofs.StateTests.{has_nodes, root_decides}
use Rattle.saved_restore.proofs.is_fresh.Goals as goal

pub returns-then-count-eq0 : goal.returns-then-count-eq0
returns-then-count-eq0 c = root_decides _ (omega arith) _ _ c.of_root.ensures c.is_none.ensures

pub returns-else-count-eq0 : goal.returns-else-count-eq0
returns-else-count-eq0 c = ne_eqb c.count.result 0 c.if-count-eq0.false ∙ has_nodes _ (omega arith)
