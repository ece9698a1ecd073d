-- A name is bad by the first test that it fails, and good where it fails none.
use Rattle.std.proofs.Common.{sym, ◌∙◌}
use Rattle.path.proofs.Naming.{bad_dot, bad_dots, bad_slash, bad_zero, good}
use Rattle.path.proofs.names.validate_path_component.Goals as goal
use Rattle.path.proofs.names.validate_path_component.Goals.{then-is_dot-via-then-is_dot, then-is_dot-via-else-is_dot+then-is_dots, then-is_dot-via-else-is_dot+else-is_dots+then-has_byte, then-is_dot-via-else-is_dot+else-is_dots+else-has_byte+then-has_byte-2}

pub returns-then-is_dot : goal.returns-then-is_dot
returns-then-is_dot c =
    elim c.then-is_dot.branch [
      | then-is_dot-via-then-is_dot w ↦ bad_dot _ (sym c.is_dot.ensures ∙ w.if-is_dot.true)
      | then-is_dot-via-else-is_dot+then-is_dots w ↦ bad_dots _ (sym w.is_dots.ensures ∙ w.if-is_dots.true)
      | then-is_dot-via-else-is_dot+else-is_dots+then-has_byte w ↦ bad_slash _ (sym w.has_byte.ensures ∙ w.if-has_byte.true)
      | then-is_dot-via-else-is_dot+else-is_dots+else-has_byte+then-has_byte-2 w ↦ bad_zero _ (sym w.has_byte-else-has_byte.ensures ∙ w.if-has_byte-2.true)
    ]

pub returns : goal.returns
returns c = good _ (sym c.is_dot.ensures ∙ c.if-is_dot.false) (sym c.is_dots.ensures ∙ c.if-is_dots.false) (sym c.has_byte.ensures ∙ c.if-has_byte.false) (sym c.has_byte-else-has_byte.ensures ∙ c.if-has_byte-2.false)
