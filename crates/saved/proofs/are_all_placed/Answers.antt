-- `saved::are_all_placed` meets its contract. Assumes nothing.
use Rattle.std.proofs.Common.{◌≤◌, ℕ, List, inl, length, ◌∙◌, arith, rules}
use borrow.Author.Tests.{tests}
use Rattle.rules.specs.Saved.{behind}
use Rattle.std.proofs.lemmas.Iterator.Consumers.{YieldsList-from_first, YieldsList-from_enumerate, YieldsList-at}
use Rattle.std.proofs.lemmas.Iterator.Search.{all_from_yields_List}
use Rattle.std.proofs.lemmas.Iterator.Adapters.{serves_from_places}
use Rattle.saved_parts.specs.declared.records.Records.{Records}
use Rattle.saved_parts.specs.Starts.{places_at}
use Rattle.saved.proofs.Walk.{within, first_whole, numbered_turn, placed, all_by, places_length}
use Rattle.saved.proofs.are_all_placed.Goals as goal

abbrev places : Records → List ℕ
places r = places_at r.b.now r.left r.at

pub first_records-requires : goal.first_records-requires
first_records-requires c = first_whole c.args.b.now c.args.count c.requires.count_in_bounds

pub all-requires-clause-can : goal.all-requires-clause-can
all-requires-clause-can c =
    let few = places_length c.args.b.now c.args.count 0 in
    (tt, tt, inl (rw (c.enumerate.ensures.count, c.enumerate.ensures.source, c.first_records.ensures, few) (omega arith)))

pub all-requires-clause-callable : goal.all-requires-clause-callable
all-requires-clause-callable c =
    serves_from_places (YieldsList-from_enumerate (YieldsList-at c.enumerate.ensures.source (YieldsList-from_first (λ x. x) places _ c.first_records.ensures)) c.enumerate.ensures.count)
    (λ x q g. search rules)
    (λ x k l e.
    let t = numbered_turn c.args.b.now c.args.count x.0 x.1 k l e in
    let whole : behind c.args.b.now x.1 ≤ length c.args.b.now = omega (arith, within c.args.b.now c.args.count x.0 x.1 t.1 t.0) in
    search rules)

pub returns : goal.returns
returns c =
    all_from_yields_List (placed c.args.b.now) c.all.new.self _ c.all.result c.all.ensures.ran
    (YieldsList-from_enumerate (YieldsList-at c.enumerate.ensures.source (YieldsList-from_first (λ x. x) places _ c.first_records.ensures)) c.enumerate.ensures.count)
    (λ x r q k. search (rules, tests))
    ∙ all_by c.args.b.now c.args.count
