-- Either test of the rule. Assumes nothing.
use mathlib.Core.Path.{sym, ◌∙◌}
use Rattle.storage.proofs.Refusals.{bad_bits, by_flags}
use Rattle.storage.proofs.has_bad_options.Goals as goal

pub returns-then-is_unknown : goal.returns-then-is_unknown
returns-then-is_unknown c = c.if-is_unknown.true ∙ sym (bad_bits _ _ (sym c.if-is_unknown.ensures))

pub returns-else-is_unknown : goal.returns-else-is_unknown
returns-else-is_unknown c = by_flags _ _ (sym c.if-is_unknown.ensures)
