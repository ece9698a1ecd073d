-- The first byte, if there is one, is compared with the slash.
use Rattle.std.proofs.Common.{refl, ◌∙◌}
use Rattle.path.proofs.Words.{rooted_first}
use Rattle.path.proofs.components.is_rooted.Goals as goal

pub returns : goal.returns
returns c = c.eq.ensures ∙ rooted_first c.args.path.now c.first.result _ c.first.ensures.value refl
