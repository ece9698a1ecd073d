-- A plain text is well formed; any other is asked whole.
use mathlib.Core.Path.{sym, ◌∙◌}
use Rattle.rules.specs.Utf8.{well_formed}
use Rattle.utf8.proofs.Plain.{plain_formed}
use Rattle.utf8.proofs.is_utf8.Goals as goal

pub returns-then-is_plain : goal.returns-then-is_plain
returns-then-is_plain c = c.if-is_plain.true ∙ sym (plain_formed _ (sym c.is_plain.ensures ∙ c.if-is_plain.true))

pub returns-else-is_plain : goal.returns-else-is_plain
unfolding well_formed
returns-else-is_plain c = rw c.valid_to.ensures
