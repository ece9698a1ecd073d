-- The refusals in their order, then no line or the last one.
use mathlib.Core.Path.{refl}
use borrow.Author.Rules.{rules}
use Rattle.std.proofs.lemmas.Result.{err_from_is_err_and}
use Rattle.session_script.proofs.Going.{not_accepted, not_room, done_none, done_line, finishes_moved}
use Rattle.session_script.proofs.finish.Goals as goal

pub returns-in_err-check_begun : goal.returns-in_err-check_begun
returns-in_err-check_begun c =
    let p = err_from_is_err_and c.from_residual.result c.from_residual.ensures.1 in
    let e = c.in_err-check_begun.ensures in
    rw (p.1, p.2, e.0) (not_accepted _ _ _ _ e.1)

pub returns-then-out-lt-ROOM : goal.returns-then-out-lt-ROOM
returns-then-out-lt-ROOM c =
    let ok = c.in_ok-check_begun.ensures in
    not_room _ _ _ _ ok.0 ok.1 c.if-out-lt-ROOM.true

pub returns-then-kept-eq0 : goal.returns-then-kept-eq0
returns-then-kept-eq0 c =
    let ok = c.in_ok-check_begun.ensures in
    done_none _ _ _ _ ok.0 ok.1 c.if-out-lt-ROOM.false c.if-kept-eq0.true

pub end_line-requires-clause-in_bounds : goal.end_line-requires-clause-in_bounds
end_line-requires-clause-in_bounds c = c.in_ok-check_begun.ensures.0

pub returns : goal.returns
returns c =
    let ok = c.in_ok-check_begun.ensures in
    finishes_moved (search rules) (done_line _ _ _ _ ok.0 ok.1 c.if-out-lt-ROOM.false c.if-kept-eq0.false _ _ refl refl _ c.end_line.ensures)
