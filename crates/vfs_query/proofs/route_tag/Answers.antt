-- The tag of the index, or none.
use mathlib.Core.Path.{sym, ◌∙◌}
use native.Mathlib.Omega.{arith}
use Rattle.std.proofs.lemmas.Result.{err_from_is_err_and}
use Rattle.rules.specs.Lookup.{route_tag}
use Rattle.tables.proofs.Keeps.{laid_long}
use Rattle.tables.proofs.Indexes.{tag_of_is}
use Rattle.call_form.proofs.OkOr.{there, missing}
use Rattle.vfs_query.proofs.route_tag.Goals as goal

pub tag_of-requires : goal.tag_of-requires
tag_of-requires c = laid_long _ c.requires

pub returns-in_err-tag : goal.returns-in_err-tag
unfolding route_tag
returns-in_err-tag c =
    let p = err_from_is_err_and c.from_residual.result c.from_residual.ensures.1 in
    let e = missing _ _ _ (sym c.ok_or.ensures.value ∙ c.in_err-tag.was) in
    rw (p.1, p.2, e.1, sym (tag_of_is _ _ _ (omega arith) c.tag_of.ensures), e.0)

pub returns : goal.returns
unfolding route_tag
returns c = rw (sym (tag_of_is _ _ _ (omega arith) c.tag_of.ensures), there _ _ _ (sym c.ok_or.ensures.value ∙ c.in_ok-tag.was))
