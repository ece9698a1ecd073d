-- `path::components::component_at` meets its contract. Assumes nothing.
use mathlib.Core.Path.{sym, ◌∙◌}
use Rattle.path.proofs.Steps.{is_single, is_double, is_plain}
use Rattle.path.proofs.components.component_at.Goals as goal

pub returns-then-is_dot : goal.returns-then-is_dot
returns-then-is_dot c =
    let a = c.args in
    is_single a.path.now a.at a.end c.requires (sym c.is_dot.ensures ∙ c.if-is_dot.true)

pub returns-then-is_dots : goal.returns-then-is_dots
returns-then-is_dots c =
    let a = c.args in
    is_double a.path.now a.at a.end c.requires (sym c.is_dots.ensures ∙ c.if-is_dots.true)

pub returns : goal.returns
returns c =
    let a = c.args in
    is_plain a.path.now a.at a.end c.requires (sym c.is_dot.ensures ∙ c.if-is_dot.false) (sym c.is_dots.ensures ∙ c.if-is_dots.false)
