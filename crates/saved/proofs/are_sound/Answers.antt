-- `saved::are_sound` meets its contract. The invariant: the records that are left are sound where all are. Assumes nothing.
use Rattle.std.proofs.Common.{◌≡◌, ◌-◌, false, not, sym, ap, ◌∙◌, arith}
use borrow.Author.Tests.{not-true}
use Rattle.saved.specs.Scan.{sound_to}
use Rattle.saved.proofs.Left.{rest_short, rest_bad, rest_on, rest_done}
use Rattle.saved.proofs.are_sound.Goals as goal
use Rattle.saved.proofs.are_sound.Goals.{then-to-at-lt-RECORD-via-then-to-at-lt-RECORD, then-to-at-lt-RECORD-via-else-to-at-lt-RECORD+then-to-at, then-to-at-lt-RECORD-via-else-to-at-lt-RECORD+else-to-at+then-not-is_sound}

pub returns-then-to-at-lt-RECORD : goal.returns-then-to-at-lt-RECORD
returns-then-to-at-lt-RECORD c =
    let l = c.loop in
    let a = c.args in
    let bad : sound_to a.b.now a.next a.to (a.count - l.counter) l.at l.last ≡ false =
    elim c.then-to-at-lt-RECORD.branch [
      | then-to-at-lt-RECORD-via-then-to-at-lt-RECORD w ↦ rest_short a.b.now a.next a.to a.count l.at l.counter l.last (omega arith) (omega arith)
      | then-to-at-lt-RECORD-via-else-to-at-lt-RECORD+then-to-at w ↦ rest_short a.b.now a.next a.to a.count l.at l.counter l.last (omega arith) (omega arith)
      | then-to-at-lt-RECORD-via-else-to-at-lt-RECORD+else-to-at+then-not-is_sound w ↦ rest_bad a.b.now a.next a.to a.count l.at l.counter l.last (omega arith) (sym w.is_sound.ensures ∙ not-true _ (ap not w.if-not-is_sound.true))
    ] in
    sym bad ∙ l.invariant.1

pub loop-preserved : goal.loop-preserved
loop-preserved c =
    let l = c.loop in
    let a = c.args in (
      omega arith,
      sym (rest_on a.b.now a.next a.to a.count l.at l.counter l.last (omega arith) (sym c.is_sound.ensures ∙ c.if-not-is_sound.false) _ _ c.record_end-at.ensures c.number_at-last.ensures) ∙ l.invariant.1,
    )

pub returns : goal.returns
returns c =
    let l = c.loop in
    sym (rest_done _ _ _ _ l.at l.counter l.last (omega arith)) ∙ l.invariant.1
