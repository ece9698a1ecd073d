-- `vfs::unmounting::umount` meets its contract: each way through it by its law.
use mathlib.Core.Path.{sym, ap, ◌∙◌}
use Rattle.std.specs.Prelude.{Ok}
use Rattle.std.proofs.lemmas.Result.{err_from_is_err_and}
use Rattle.call_form.proofs.OkOr.{there, missing as not-there}
use Rattle.vfs.proofs.UnmountWays.{stopped, missing, kept, arrived}
use Rattle.vfs.proofs.unmounting.umount.Goals as goal

pub returns-in_err-path_walk : goal.returns-in_err-path_walk
returns-in_err-path_walk c =
    let p = err_from_is_err_and c.from_residual.result c.from_residual.ensures.1 in
    rw (p.1, p.2) (stopped _ _ _ c.path_walk.ensures _ c.in_err-path_walk.was)

pub returns-in_err-x : goal.returns-in_err-x
returns-in_err-x c =
    let p = err_from_is_err_and c.from_residual-in_err-x.result c.from_residual-in_err-x.ensures.1 in
    let e = not-there _ _ _ (sym c.ok_or.ensures.value ∙ c.in_err-x.was) in
    rw (p.1, p.2, e.1) (missing _ _ _ c.path_walk.ensures (c.in_ok-path_walk.was ∙ ap Ok e.0))

pub unmount_at-requires : goal.unmount_at-requires
unmount_at-requires c = kept _ _ _ c.path_walk.ensures _ (c.in_ok-path_walk.was ∙ ap Ok (there _ _ _ (sym c.ok_or.ensures.value ∙ c.in_ok-x.was)))

pub returns : goal.returns
returns c = arrived _ _ _ c.path_walk.ensures _ (c.in_ok-path_walk.was ∙ ap Ok (there _ _ _ (sym c.ok_or.ensures.value ∙ c.in_ok-x.was))) _ _ c.unmount_at.ensures
