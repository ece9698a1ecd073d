-- `saved::is_placed` meets its contract. Assumes nothing.
use Rattle.std.proofs.Common.{not, ap, sym, ◌∙◌, arith}
use Rattle.saved.proofs.Keeping.{not_listed, if_listed}
use Rattle.saved.proofs.is_placed.Goals as goal

pub returns-then-is_listed : goal.returns-then-is_listed
returns-then-is_listed c =
    ap not c.is_used.ensures ∙ if_listed _ _ c.requires.keeps _ _ (omega arith) _ c.parent_at.ensures (sym c.is_listed.ensures ∙ c.if-is_listed.true)

pub returns-else-is_listed : goal.returns-else-is_listed
returns-else-is_listed c = c.is_listed.ensures ∙ not_listed _ _ c.requires.keeps _ _ (omega arith) _ c.parent_at.ensures (sym c.is_listed.ensures ∙ c.if-is_listed.false)
