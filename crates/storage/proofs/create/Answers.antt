-- Each refusal is a test of the rule; where none applies the new bytes are written. Assumes nothing.
use mathlib.Core.Path.{refl, sym, ◌∙◌}
use Rattle.rules.proofs.Create.{large_enough}
use Rattle.storage.proofs.Refusals.{code_small, code_options, code_map, code_done}
use Rattle.storage.proofs.Creation.{new_limits, refused, done}
use borrow.Author.Rules.{rules}
use Rattle.storage.proofs.create.Goals as goal

pub returns-then-is_small : goal.returns-then-is_small
returns-then-is_small c = refused _ _ _ 11 refl (code_small _ _ (sym c.is_small.ensures ∙ c.if-is_small.true))

pub returns-then-has_bad_options : goal.returns-then-has_bad_options
returns-then-has_bad_options c = refused _ _ _ 12 refl (code_options _ _ (sym c.is_small.ensures ∙ c.if-is_small.false) (sym c.has_bad_options.ensures ∙ c.if-has_bad_options.true))

pub returns-then-is_bad : goal.returns-then-is_bad
returns-then-is_bad c = refused _ _ _ 8 refl (code_map _ _ (sym c.is_small.ensures ∙ c.if-is_small.false) (sym c.has_bad_options.ensures ∙ c.if-has_bad_options.false) (sym c.is_bad.ensures ∙ c.if-is_bad.true))

pub put_new-requires : goal.put_new-requires
put_new-requires c = let l = large_enough _ _ (sym c.is_small.ensures ∙ c.if-is_small.false) in search rules

pub returns : goal.returns
returns c =
    let s = c.args.s.now in
    let e = sym c.is_small.ensures ∙ c.if-is_small.false in
    let f = sym c.has_bad_options.ensures ∙ c.if-has_bad_options.false in
    let h = sym c.is_bad.ensures ∙ c.if-is_bad.false in
    done _ s _ (code_done _ _ e f h) c.put_new.ensures (new_limits _ s e f h (search rules) (search rules) (search rules)) (large_enough _ _ e).2
