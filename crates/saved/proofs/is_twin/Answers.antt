-- `saved::is_twin` meets its contract. Assumes nothing.
use Rattle.std.proofs.Common.{arith, ◌∙◌}
use Rattle.std.proofs.lemmas.Grind.{common_steps}
use Rattle.saved.specs.Scan.{twin}
use Rattle.saved.proofs.Twins.{by_name}
use Rattle.saved.proofs.is_twin.Goals as goal

pub returns-then-parent_at : goal.returns-then-parent_at
returns-then-parent_at c = c.eq.ensures ∙ by_name _ _ _ _ _ c.parent_at.ensures c.parent_at-2.ensures c.if-parent_at.true _ _ c.name_at.ensures c.name_at-then-parent_at.ensures

pub returns-else-parent_at : goal.returns-else-parent_at
unfolding twin
returns-else-parent_at c = grind (arith, common_steps)
