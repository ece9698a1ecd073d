-- The number converted, and the id mapped out by the mapping in force.
use mathlib.Core.Path.{ap, ◌∙◌}
use Rattle.rules.specs.Numbers.{or_zero}
use Rattle.pseudo_fs.proofs.Calls.{pseudo_made}
use Rattle.pseudo_fs.proofs.inner.pseudo_entry.Goals as goal

pub returns : goal.returns
returns c = pseudo_made _ _ _ _ _ (c.or_zero.ensures ∙ ap or_zero c.pseudo_inode.ensures.full) c.mapping.ensures c.map_out-id.ensures
