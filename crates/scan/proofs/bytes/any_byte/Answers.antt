-- The bytes that are passed have no hit; where none is hit in the last eight either, none is.
use mathlib.Core.Path.{◌≡◌, refl, sym, ◌∙◌}
use native.Mathlib.Omega.{arith}
use Rattle.std.specs.List.{list_any}
use Rattle.std.proofs.Common.{rules}
use Rattle.std.proofs.lemmas.Iterator.{YieldsList-from_slice}
use Rattle.std.proofs.lemmas.Iterator.Search.{any_from_yields_List}
use Rattle.scan.proofs.Asked.{hit_here, passed, rest_more, last_eight}
use Rattle.scan.proofs.bytes.any_byte.Goals as goal

pub returns-then-s-lt8 : goal.returns-then-s-lt8
returns-then-s-lt8 g c = λ f says.
    any_from_yields_List f _ _ _ c.any.ensures.ran (YieldsList-from_slice c.args.s.now c.iter.ensures.rest) (λ x b q k. search (rules, says))

pub returns-then-any_together : goal.returns-then-any_together
returns-then-any_together g c = λ f says.
    hit_here f _ _ _ 8 (c.loop-eight.invariant.3 f says) c.in-Some.ensures.cases.1 (sym (c.any_together.ensures f says) ∙ c.if-any_together.true)

pub loop-eight-preserved : goal.loop-eight-preserved
loop-eight-preserved g c =
    let i = c.loop-eight.invariant in
    let p = c.in-Some.ensures.cases in
    (i.0, omega (arith, i.1, p.4), rest_more _ _ _ 8 i.1 i.2 p.2 p.0, λ f says. passed f _ _ _ _ 8 (i.3 f says) p.1 p.2 (sym (c.any_together.ensures f says) ∙ c.if-any_together.false))

pub returns : goal.returns
returns g c = λ f says.
    let i = c.loop-eight.invariant in
    c.any_together-2.ensures f says ∙ last_eight f _ _ (i.3 f says) i.2 c.in_default.ensures.cases (search rules)
