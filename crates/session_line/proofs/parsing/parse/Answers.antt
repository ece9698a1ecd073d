-- A line over the limit has no form; else its first field and those behind it say which.
use mathlib.Core.Path.{sym, ap, ◌∙◌}
use Rattle.session_line.specs.Fields.{next_in, line_in}
use Rattle.session_line.proofs.Forms.{long_none, parsed_by}
use Rattle.session_line.proofs.parsing.parse.Goals as goal

pub returns-then-line-gt-MAX_LINE : goal.returns-then-line-gt-MAX_LINE
returns-then-line-gt-MAX_LINE c = long_none _ c.if-line-gt-MAX_LINE.true

pub returns-in_err-verb : goal.returns-in_err-verb
returns-in_err-verb c =
    ap line_in c.from_residual.ensures ∙ parsed_by _ c.if-line-gt-MAX_LINE.false _ (sym (ap next_in c.in_err-verb.was) ∙ c.next.ensures)

pub returns : goal.returns
returns c =
    c.form.ensures ∙ parsed_by _ c.if-line-gt-MAX_LINE.false _ (sym (ap next_in c.in_ok-verb.was) ∙ c.next.ensures)
