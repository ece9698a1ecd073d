-- The layout test, the room, and then the records, the options and the trailer, one behind the other. Assumes nothing.
use native.Mathlib.Omega.{arith}
use borrow.Author.Rules.{rules}
use Rattle.std.proofs.lemmas.Result.{err_from_is_err_and}
use Rattle.tables.proofs.Keeps.{laid_is}
use Rattle.persist.proofs.SaveWays.{saves_small, saves_no_room, saves_whole}
use Rattle.persist.proofs.saving.save_to_bytes.Goals as goal

pub returns-in_err-check_laid : goal.returns-in_err-check_laid
returns-in_err-check_laid c =
    let p = err_from_is_err_and c.from_residual.result c.from_residual.ensures.1 in
    let e = c.in_err-check_laid.ensures in
    rw (p.1, p.2, e.0) (saves_small _ _ e.1)

pub records_size-end-requires : goal.records_size-end-requires
records_size-end-requires c = laid_is _ c.in_ok-check_laid.ensures

pub returns-then-out-end : goal.returns-then-out-end
returns-then-out-end c = saves_no_room _ _ c.in_ok-check_laid.ensures _ c.records_size-end.ensures.count c.if-out-end.true

pub count-count-requires : goal.count-count-requires
count-count-requires c = laid_is _ c.in_ok-check_laid.ensures

pub next-next-requires : goal.next-next-requires
next-next-requires c = laid_is _ c.in_ok-check_laid.ensures

pub counter-counter-requires : goal.counter-counter-requires
counter-counter-requires c = omega (arith, (laid_is _ c.in_ok-check_laid.ensures).long)

pub put_records-requires : goal.put_records-requires
put_records-requires c = record { bounds = laid_is _ c.in_ok-check_laid.ensures; s_in_bounds = omega (arith, c.records_size-end.ensures.count, c.if-out-end.false) }

pub put_options-requires : goal.put_options-requires
put_options-requires c = record { bounds = laid_is _ c.in_ok-check_laid.ensures; options_row_in_bounds = search rules }

pub overflow_cast-count : goal.overflow_cast-count
overflow_cast-count c =
    let l = laid_is _ c.in_ok-check_laid.ensures in
    omega (arith, c.count-count.ensures, l.live, l.few_nodes)

pub returns : goal.returns
returns c =
    saves_whole _ _ c.in_ok-check_laid.ensures _ c.records_size-end.ensures.count c.if-out-end.false _ _ _ _ _ _ c.count-count.ensures c.next-next.ensures
    c.counter-counter.ensures c.put_records.ensures c.put_options.ensures c.put_trailer.ensures
