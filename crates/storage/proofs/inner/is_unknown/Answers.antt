-- Either test of the rule. Assumes nothing.
use mathlib.Core.Path.{sym, ap, ◌∙◌}
use mathlib.Core.Bool.{not}
use borrow.Author.Tests.{ne_eqb}
use Rattle.storage.proofs.Refusals.{in_unknown, by_out}
use Rattle.storage.proofs.inner.is_unknown.Goals as goal

pub returns-then-o-known : goal.returns-then-o-known
returns-then-o-known c = ap not (ne_eqb _ _ c.if-o-known.true) ∙ sym (in_unknown _ _ c.if-o-known.true)

pub returns-else-o-known : goal.returns-else-o-known
returns-else-o-known c = by_out _ _ c.if-o-known.false
