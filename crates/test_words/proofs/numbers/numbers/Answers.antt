-- `test_words::numbers::numbers` meets its contract. Assumes nothing.
use Rattle.std.proofs.Common.{refl, ap, ◌∙◌, rules, tests}
use Rattle.std.proofs.lemmas.Iterator.{YieldsList-from_take}
use Rattle.std.proofs.lemmas.Iterator.Consumers.{YieldsList-from_first, YieldsList-at, YieldsList-from_filter_map, YieldsList-from_enumerate, YieldsList-turn, YieldsList-end}
use Rattle.rules.specs.Session.{words, shown}
use Rattle.decimal.specs.Read.{number_to}
use Rattle.test_words.specs.Among.{words_left}
use Rattle.test_words.proofs.Finding.{largest, numbers_found, turn_more, turn_end}
use Rattle.test_words.proofs.numbers.numbers.Goals as goal

pub loop-k-init : goal.loop-k-init
unfolding shown
loop-k-init c = refl

pub loop-k-preserved : goal.loop-k-preserved
loop-k-preserved c = turn_more _ _ _ _ _ c.loop-k.invariant (YieldsList-turn (YieldsList-at c.into_iter-k-iterator.ensures.into_iter_gives (YieldsList-from_enumerate (YieldsList-at c.enumerate-k-items.ensures.source (YieldsList-from_take 8 (YieldsList-at c.take.ensures.source (YieldsList-from_filter_map _ (number_to largest) (YieldsList-at c.filter_map-values.ensures.source (YieldsList-from_first (λ x. x.now) (λ w. words_left w.0) (words c.args.line.now) refl)) c.filter_map-values.ensures.closure (λ x r q k. search (rules, tests)))) c.take.ensures.count)) c.enumerate-k-items.ensures.count)) c.loop-k.yielded _ c.loop-k.yielded_by _ _ (c.in-Some.k, c.in-Some.v) c.in-Some.is c.next.ensures.steps)

pub returns : goal.returns
returns c = turn_end _ _ _ c.loop-k.invariant (YieldsList-end (YieldsList-at c.into_iter-k-iterator.ensures.into_iter_gives (YieldsList-from_enumerate (YieldsList-at c.enumerate-k-items.ensures.source (YieldsList-from_take 8 (YieldsList-at c.take.ensures.source (YieldsList-from_filter_map _ (number_to largest) (YieldsList-at c.filter_map-values.ensures.source (YieldsList-from_first (λ x. x.now) (λ w. words_left w.0) (words c.args.line.now) refl)) c.filter_map-values.ensures.closure (λ x r q k. search (rules, tests)))) c.take.ensures.count)) c.enumerate-k-items.ensures.count)) c.loop-k.yielded _ c.loop-k.yielded_by _ _ c.in-None.is c.next.ensures.steps).0 ∙ ap (shown 8) (numbers_found c.args.line.now)
