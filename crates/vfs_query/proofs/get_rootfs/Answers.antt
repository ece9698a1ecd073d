-- Each return is a case of the rule, by the walk's answer and the mount.
use mathlib.Core.Path.{refl, sym, ap, ◌∙◌}
use Rattle.std.specs.Prelude.{Ok}
use native.Mathlib.Omega.{arith}
use Rattle.std.proofs.lemmas.Result.{err_from_is_err_and}
use Rattle.rules.specs.Rootfs.{root_held}
use Rattle.pseudo_fs.proofs.Calls.{walk_says, walk_refused}
use Rattle.tables.proofs.Keeps.{laid_is, laid_long}
use Rattle.tables.proofs.Indexes.{tag_of_is}
use Rattle.storage.proofs.Laid.{tells_by}
use Rattle.call_form.proofs.OkOr.{there, missing}
use Rattle.vfs_query.proofs.Rules.{root_bad, root_nowhere, root_bare, root_mounted}
use Rattle.vfs_query.proofs.get_rootfs.Goals as goal

pub returns-in_err-x : goal.returns-in_err-x
returns-in_err-x c =
    let p = err_from_is_err_and c.from_residual.result c.from_residual.ensures.1 in
    rw (p.1, p.2) (walk_refused _ _ _ _ c.path_walk.ensures c.in_err-x.was _ (λ b. root_bad _ _ b))

pub returns-in_default : goal.returns-in_default
returns-in_default c =
    let w = walk_says _ _ _ _ c.path_walk.ensures (c.in_ok-x.was ∙ ap Ok c.in_default.is) in
    tells_by _ _ _ _ w.0 refl (root_nowhere _ _ w.1 w.2)

pub of_node-requires : goal.of_node-requires
of_node-requires c = laid_is _ (walk_says _ _ _ _ c.path_walk.ensures (c.in_ok-x.was ∙ ap Ok c.in-Some.is)).0

pub returns-in_default-of_node : goal.returns-in_default-of_node
returns-in_default-of_node c =
    let w = walk_says _ _ _ _ c.path_walk.ensures (c.in_ok-x.was ∙ ap Ok c.in-Some.is) in
    tells_by _ _ _ _ w.0 refl (root_bare _ _ w.1 _ w.2 c.in_default-of_node.ensures)

pub tag_of-requires : goal.tag_of-requires
tag_of-requires c = laid_long _ (walk_says _ _ _ _ c.path_walk.ensures (c.in_ok-x.was ∙ ap Ok c.in-Some.is)).0

pub returns-in_err-tag : goal.returns-in_err-tag
unfolding root_held
returns-in_err-tag c =
    let p = err_from_is_err_and c.from_residual-in_err-tag.result c.from_residual-in_err-tag.ensures.1 in
    let w = walk_says _ _ _ _ c.path_walk.ensures (c.in_ok-x.was ∙ ap Ok c.in-Some.is) in
    let e = missing _ _ _ (sym c.ok_or.ensures.value ∙ c.in_err-tag.was) in
    rw (p.1, p.2)
    (tells_by _ _ _ _ w.0 (rw (e.1, sym (tag_of_is _ _ _ (omega arith) c.tag_of.ensures), e.0)) (root_mounted _ _ w.1 _ w.2 _ c.in-Some-of_node.ensures))

pub returns : goal.returns
unfolding root_held
returns c =
    let w = walk_says _ _ _ _ c.path_walk.ensures (c.in_ok-x.was ∙ ap Ok c.in-Some.is) in
    tells_by _ _ _ _ w.0 (rw (sym (tag_of_is _ _ _ (omega arith) c.tag_of.ensures), there _ _ _ (sym c.ok_or.ensures.value ∙ c.in_ok-tag.was)))
    (root_mounted _ _ w.1 _ w.2 _ c.in-Some-of_node.ensures)
