-- The numbers so far stand in the text.
use Rattle.std.proofs.Common.{◌*◌, take}
use Rattle.decimal.specs.Text.{Appended}
use Rattle.session_text.specs.Texts.{spaced}
use Rattle.session_text.proofs.put_spaced.Given as goal

abbrev pub invariant-loop-n : goal.invariant-loop-n
invariant-loop-n l = Appended l.initial.text (21 * l.n-index) (spaced (take l.n-index l.numbers)) l.text
