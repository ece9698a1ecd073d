-- What was written as bytes is read back.
use mathlib.Core.Path.{ap, ◌∙◌}
use native.Mathlib.Omega.{arith}
use Rattle.std.specs.Int.{w16, w64, from_le_bytes}
use Rattle.std.proofs.lemmas.Nat.{from_le_bytes-to_le_bytes_2, from_le_bytes-to_le_bytes_8}
use Rattle.plan.specs.Plan.{planned_parent, planned_start}
use Rattle.plan.proofs.PlannedNode.new.Goals as goal

pub returns-clause-parent : goal.returns-clause-parent
unfolding planned_parent
returns-clause-parent c = ap (from_le_bytes w64) c.to_le_bytes.ensures ∙ from_le_bytes-to_le_bytes_8 _ (omega arith)

pub returns-clause-start : goal.returns-clause-start
unfolding planned_start
returns-clause-start c = ap (from_le_bytes w16) c.to_le_bytes-2.ensures ∙ from_le_bytes-to_le_bytes_2 _ (omega arith)
