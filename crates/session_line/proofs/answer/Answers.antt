-- `session_line::answer` meets its contract, by the form that was read.
use mathlib.Core.Path.{sym, ap, ◌∙◌}
use Rattle.std.specs.Prelude.{Some}
use Rattle.session_line.specs.Fields.{line_in}
use Rattle.session_line.proofs.Replying.{by_line, walks, looks, no_form}
use Rattle.session_line.proofs.answer.Goals as goal

pub returns-in-Some-Mount : goal.returns-in-Some-Mount
returns-in-Some-Mount c =
    by_line (sym (ap line_in (c.in-Some-Mount.is ∙ ap Some c.in-Some-Mount.field-0-is)) ∙ c.parse.ensures) c.mount_line.ensures

pub returns-in-Some-Umount : goal.returns-in-Some-Umount
returns-in-Some-Umount c =
    by_line (sym (ap line_in (c.in-Some-Umount.is ∙ ap Some c.in-Some-Umount.field-0-is)) ∙ c.parse.ensures) c.umount_line.ensures

pub returns-in-Some-Walk : goal.returns-in-Some-Walk
returns-in-Some-Walk c =
    by_line (sym (ap line_in (c.in-Some-Walk.is ∙ ap Some c.in-Some-Walk.field-0-is)) ∙ c.parse.ensures) (walks _ _ _ _ c.walk_line.ensures)

pub returns-in-Some-Look : goal.returns-in-Some-Look
returns-in-Some-Look c =
    by_line (sym (ap line_in (c.in-Some-Look.is ∙ ap Some c.in-Some-Look.field-0-is)) ∙ c.parse.ensures) (looks _ _ _ _ _ c.look_line.ensures)

pub returns-in-None : goal.returns-in-None
returns-in-None c = by_line (sym (ap line_in c.in-None.is) ∙ c.parse.ensures) (no_form _ _ _ c.put_question.ensures)
