-- Each return is a row of the rule. Assumes nothing.
use mathlib.Core.Path.{ap}
use mathlib.Core.Bool.{not}
use Rattle.std.proofs.lemmas.Result.{err_from_is_err_and}
use Rattle.tables.proofs.Keeps.{laid_is}
use Rattle.persist.proofs.StateWays.{accepted_by, long_by, bytes_by, small, not_fresh, bad_save, bad_opt, no_room_lem, fits_by, restores}
use Rattle.persist.proofs.state_restoring.restore_from_bytes.Goals as goal

pub returns-in_err-check_laid : goal.returns-in_err-check_laid
returns-in_err-check_laid c =
    let p = err_from_is_err_and c.from_residual.result c.from_residual.ensures.1 in
    let e = c.in_err-check_laid.ensures in
    rw (p.1, p.2, e.0) (small _ _ e.1)

pub is_fresh-requires : goal.is_fresh-requires
is_fresh-requires c = laid_is _ c.in_ok-check_laid.ensures

pub returns-then-not-is_fresh : goal.returns-then-not-is_fresh
returns-then-not-is_fresh c = not_fresh _ _ c.in_ok-check_laid.ensures _ c.is_fresh.ensures (ap not c.if-not-is_fresh.true)

pub returns-then-not-is_accepted : goal.returns-then-not-is_accepted
returns-then-not-is_accepted c = bad_save _ _ c.in_ok-check_laid.ensures _ c.is_fresh.ensures (ap not c.if-not-is_fresh.false) _ c.is_accepted.ensures (ap not c.if-not-is_accepted.true)

pub has_unknown-requires : goal.has_unknown-requires
has_unknown-requires c = record { table_at_in_bounds = bytes_by _ c.in_ok-check_laid.ensures; tail_length_in_bounds = long_by _ _ c.is_accepted.ensures (ap not c.if-not-is_accepted.false) }

pub returns-then-has_unknown : goal.returns-then-has_unknown
returns-then-has_unknown c = bad_opt _ _ c.in_ok-check_laid.ensures _ c.is_fresh.ensures (ap not c.if-not-is_fresh.false) _ c.is_accepted.ensures (ap not c.if-not-is_accepted.false) _ c.has_unknown.ensures c.if-has_unknown.true

pub is_too_many-requires : goal.is_too_many-requires
is_too_many-requires c = record { bounds = laid_is _ c.in_ok-check_laid.ensures; tail_length_in_bounds = long_by _ _ c.is_accepted.ensures (ap not c.if-not-is_accepted.false) }

pub returns-then-is_too_many : goal.returns-then-is_too_many
returns-then-is_too_many c = no_room_lem _ _ c.in_ok-check_laid.ensures _ c.is_fresh.ensures (ap not c.if-not-is_fresh.false) _ c.is_accepted.ensures (ap not c.if-not-is_accepted.false) _ c.has_unknown.ensures c.if-has_unknown.false _ c.is_too_many.ensures c.if-is_too_many.true

pub put_saved-requires : goal.put_saved-requires
put_saved-requires c = record { s_value = c.in_ok-check_laid.ensures; b_value = accepted_by _ _ c.is_accepted.ensures (ap not c.if-not-is_accepted.false); b_bound = fits_by _ _ c.in_ok-check_laid.ensures _ c.is_fresh.ensures (ap not c.if-not-is_fresh.false) _ c.is_accepted.ensures (ap not c.if-not-is_accepted.false) _ c.has_unknown.ensures c.if-has_unknown.false _ c.is_too_many.ensures c.if-is_too_many.false }

pub returns : goal.returns
returns c = restores _ _ c.in_ok-check_laid.ensures _ c.is_fresh.ensures (ap not c.if-not-is_fresh.false) _ c.is_accepted.ensures (ap not c.if-not-is_accepted.false) _ c.has_unknown.ensures c.if-has_unknown.false _ c.is_too_many.ensures c.if-is_too_many.false (λ i. (c.type_inv.b i).fits) _ c.put_saved.ensures
