-- `saved::is_placed_by_scan` meets its contract. The invariant: of the records passed, whether one is the parent is known, and none is a twin.
-- Assumes nothing.
use Rattle.std.proofs.Common.{ℕ, ◌||◌, eqb, length, sym, refl, ap, ◌∙◌, arith}
use Rattle.std.proofs.lemmas.Iterator.Consumers.{YieldsList-from_first, YieldsList-at, YieldsList-turn, YieldsList-end}
use Rattle.std.proofs.lemmas.List.{length_push}
use Rattle.rules.specs.Saved.{saved_node_at, present, used}
use Rattle.saved.specs.Scan.{earlier}
use Rattle.saved.proofs.Walk.{within, first_whole, turn, last_turn, present_next, used_on, used_among, is_used, scanned}
use Rattle.saved.proofs.is_placed_by_scan.Goals as goal

pub first_records-p-items-requires : goal.first_records-p-items-requires
first_records-p-items-requires c = first_whole c.args.b.now c.args.i (omega arith)

pub loop-p-init : goal.loop-p-init
unfolding earlier present used
loop-p-init c = (ap (λ (x : ℕ). eqb x 1) c.parent_at-parent.ensures, refl)

pub is_twin-requires-clause-p_in_bounds : goal.is_twin-requires-clause-p_in_bounds
is_twin-requires-clause-p_in_bounds c =
    let t =
    turn c.args.b.now c.args.i (length c.loop-p.yielded) c.in-Some.p
    (YieldsList-turn (YieldsList-at c.into_iter-p-iterator.ensures.into_iter_gives (YieldsList-from_first _ _ _ c.first_records-p-items.ensures)) c.loop-p.yielded _ c.loop-p.yielded_by _ c.next.new.self c.in-Some.p c.in-Some.is c.next.ensures.steps) in
    omega (arith, within c.args.b.now c.args.i (length c.loop-p.yielded) c.in-Some.p t.1 t.0)

pub returns-then-is_twin : goal.returns-then-is_twin
returns-then-is_twin c =
    let t =
    turn c.args.b.now c.args.i (length c.loop-p.yielded) c.in-Some.p
    (YieldsList-turn (YieldsList-at c.into_iter-p-iterator.ensures.into_iter_gives (YieldsList-from_first _ _ _ c.first_records-p-items.ensures)) c.loop-p.yielded _ c.loop-p.yielded_by _ c.next.new.self c.in-Some.p c.in-Some.is c.next.ensures.steps) in
    sym (is_used _ _ (used_among c.args.b.now _ c.args.i (length c.loop-p.yielded) c.in-Some.p t.1 t.0 (sym c.is_twin.ensures ∙ c.if-is_twin.true)))

pub number_at-requires : goal.number_at-requires
number_at-requires c =
    let t =
    turn c.args.b.now c.args.i (length c.loop-p.yielded) c.in-Some.p
    (YieldsList-turn (YieldsList-at c.into_iter-p-iterator.ensures.into_iter_gives (YieldsList-from_first _ _ _ c.first_records-p-items.ensures)) c.loop-p.yielded _ c.loop-p.yielded_by _ c.next.new.self c.in-Some.p c.in-Some.is c.next.ensures.steps) in
    omega (arith, within c.args.b.now c.args.i (length c.loop-p.yielded) c.in-Some.p t.1 t.0)

pub loop-p-preserved : goal.loop-p-preserved
loop-p-preserved c =
    let t =
    turn c.args.b.now c.args.i (length c.loop-p.yielded) c.in-Some.p
    (YieldsList-turn (YieldsList-at c.into_iter-p-iterator.ensures.into_iter_gives (YieldsList-from_first _ _ _ c.first_records-p-items.ensures)) c.loop-p.yielded _ c.loop-p.yielded_by _ c.next.new.self c.in-Some.p c.in-Some.is c.next.ensures.steps) in
    let j = length c.loop-p.yielded in
    let b = c.args.b.now in
    let n = saved_node_at b c.args.at in
    rw (length_push c.loop-p.yielded c.in-Some.p) (
      (λ i. c.loop-p.invariant.0 i || eqb (c.number_at.ensures i) (c.parent_at-parent.ensures i)) ∙ sym (present_next b n j c.in-Some.p t.1),
      used_on b n j c.in-Some.p t.1 (sym c.is_twin.ensures ∙ c.if-is_twin.false) ∙ c.loop-p.invariant.1,
    )

pub returns : goal.returns
returns c =
    let e =
    last_turn c.args.b.now c.args.i (length c.loop-p.yielded)
    (YieldsList-end (YieldsList-at c.into_iter-p-iterator.ensures.into_iter_gives (YieldsList-from_first _ _ _ c.first_records-p-items.ensures)) c.loop-p.yielded _ c.loop-p.yielded_by _ c.next.new.self c.in-None.is c.next.ensures.steps).1 in
    scanned _ _ _ (length c.loop-p.yielded) c.loop-p.found (omega arith) (omega arith) c.loop-p.invariant.0 c.loop-p.invariant.1
