-- Up to a place, what the rest leads to is what the whole piece leads to; a law for each way round.
use mathlib.Core.Path.{refl, sym}
use borrow.Author.Rules.{rules}
use native.Mathlib.Omega.{arith}
use Rattle.std.proofs.lemmas.Result.{err_from_is_err_and}
use Rattle.session_script.proofs.Going.{so_far_start, so_far_more, joins, feeds_all, feeds_full, feeds_moved, refuses}
use Rattle.path.proofs.Words.{end_in, end_behind}
use Rattle.session_script.proofs.feed.Goals as goal
use Rattle.session_script.proofs.feed.Goals.{then-loop-used-test+else-room-ge-ROOM, else-loop-used-test}

pub returns-in_err-check_begun : goal.returns-in_err-check_begun
returns-in_err-check_begun c =
    let p = err_from_is_err_and c.from_residual.result c.from_residual.ensures.1 in
    let e = c.in_err-check_begun.ensures in
    rw (p.1, p.2, e.0) (refuses _ _ _ _ _ e.1)

pub loop-used-init : goal.loop-used-init
loop-used-init c =
    let ok = c.in_ok-check_begun.ensures in
    record { so_far = so_far_start _ _ _ _ _ ok.0 ok.1 _ refl refl; same_carry = refl; same_out = refl }

pub loop-used-preserved-then-piece-used-eq-LINE_END : goal.loop-used-preserved-then-piece-used-eq-LINE_END
loop-used-preserved-then-piece-used-eq-LINE_END c =
    record {
      so_far = so_far_more _ _ _ _ _ _ _ _ _ _ c.loop-used.invariant.so_far (omega arith) (omega arith) 10 (sym c.if-piece-used-eq-LINE_END.true) _ _ _ _ c.end.ensures.took;
      same_carry = search rules;
      same_out = search rules;
    }

pub slice_bounds-join-count : goal.slice_bounds-join-count
slice_bounds-join-count c = omega (arith, end_in 10 _ _ c.part_end-end.ensures c.loop-used.invariant.so_far.inside)

pub slice_bounds-join-start : goal.slice_bounds-join-start
slice_bounds-join-start c = omega (arith, end_in 10 _ _ c.part_end-end.ensures c.loop-used.invariant.so_far.inside)

pub slice_bounds-join-end : goal.slice_bounds-join-end
slice_bounds-join-end c = omega (arith, end_in 10 _ _ c.part_end-end.ensures c.loop-used.invariant.so_far.inside)

pub loop-used-smaller : goal.loop-used-smaller
loop-used-smaller c = omega (arith, end_behind 10 _ _ c.part_end-end.ensures (omega arith) c.if-piece-used-eq-LINE_END.false)

pub loop-used-preserved : goal.loop-used-preserved
loop-used-preserved c =
    record {
      so_far = joins _ _ _ _ _ _ _ _ _ _ c.loop-used.invariant.so_far (omega arith) _ c.part_end-end.ensures _ _ c.join.ensures.joined;
      same_carry = search rules;
      same_out = search rules;
    }

pub returns : goal.returns
returns c =
    let i = c.loop-used.invariant in
    elim c.loop-used-test.branch [
      | else-loop-used-test w ↦ feeds_moved (search rules) (search rules) (feeds_all _ _ _ _ _ _ _ _ _ _ i.so_far (omega arith))
      | then-loop-used-test+else-room-ge-ROOM w ↦ feeds_moved (search rules) (search rules) (feeds_full _ _ _ _ _ _ _ _ _ _ i.so_far (omega arith) (omega arith))
    ]
