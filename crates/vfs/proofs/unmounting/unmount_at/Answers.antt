-- With a mount on the node it is taken off; without one nothing changes.
use mathlib.Core.Path.{refl, sym, ◌∙◌}
use borrow.Author.Rules.{rules}
use Rattle.std.proofs.lemmas.Result.{err_from_is_err_and}
use Rattle.call_form.proofs.OkOr.{there, missing}
use Rattle.tables.proofs.Keeps.{laid_is}
use Rattle.vfs.proofs.UnmountWays.{takes, finds_none}
use Rattle.vfs.proofs.unmounting.unmount_at.Goals as goal

pub with_parent-here-requires : goal.with_parent-here-requires
with_parent-here-requires c = laid_is _ c.requires

pub returns-in_err-m : goal.returns-in_err-m
returns-in_err-m c =
    let p = err_from_is_err_and c.from_residual.result c.from_residual.ensures.1 in
    let e = missing _ _ _ (sym c.ok_or.ensures.value ∙ c.in_err-m.was) in
    rw (p.1, p.2, e.1) (finds_none _ _ _ c.requires c.with_parent-here.ensures.mount e.0)

pub returns : goal.returns
returns c =
    takes _ _ _ _ c.with_parent-here.result.mount c.in_ok-m.m _ c.requires c.with_parent-here.ensures.mount (there _ _ _ (sym c.ok_or.ensures.value ∙ c.in_ok-m.was)) (search rules)
    c.with_parent-here.ensures.parent c.take_off-released.ensures _ _ refl refl
