-- The two ways of a line: over the limit, or answered.
use mathlib.Core.Path.{refl}
use Rattle.session_script.proofs.Bytes.{ended_over, ended_line}
use Rattle.session_script.proofs.end_line.Goals as goal
use Rattle.session_script.proofs.end_line.Goals.{then-kept-gt-MAX_LINE, else-kept-gt-MAX_LINE}

pub returns : goal.returns
returns c =
    let a = c.args in
    elim c.if-kept-gt-MAX_LINE.branch [
      | then-kept-gt-MAX_LINE w ↦ rw w.s-is (ended_over a.s.now a.carry.now a.kept a.text.now w.if-kept-gt-MAX_LINE.true _ _ w.put_question.ensures (rw w.text-is at c.put_byte.ensures))
      | else-kept-gt-MAX_LINE w ↦ rw w.s-is (ended_line a.s.now a.carry.now a.kept a.text.now w.if-kept-gt-MAX_LINE.false _ _ _ _ w.answer.ensures refl (rw w.text-is at c.put_byte.ensures))
    ]
