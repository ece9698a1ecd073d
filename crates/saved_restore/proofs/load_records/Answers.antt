-- The invariant is `Loading`: to load the rest here gives what loading all gives. Assumes nothing.
use native.Mathlib.Omega.{arith}
use lib.ListN.{length}
use Rattle.std.proofs.lemmas.Iterator.Consumers.{YieldsList-from_first, YieldsList-at, YieldsList-turn, YieldsList-end}
use Rattle.std.proofs.lemmas.List.{length_push}
use Rattle.saved.proofs.Accepted.{accepted_long, accepted_within, accepted_whole}
use Rattle.saved.proofs.Walk.{turn, last_turn}
use Rattle.saved_restore.proofs.Records.{record_loads}
use Rattle.saved_restore.proofs.Loading.{begins, loaded, goes_on}
use Rattle.saved_restore.proofs.load_records.Goals as goal

pub count_of-requires : goal.count_of-requires
count_of-requires c = omega (arith, accepted_long _ c.requires.b_value)

pub first_records-at-items-requires : goal.first_records-at-items-requires
first_records-at-items-requires c = rw c.count_of.ensures (accepted_whole _ c.requires.b_value)

pub loop-at-init : goal.loop-at-init
loop-at-init c = begins _ _ c.requires.s_value

pub load_record-requires : goal.load_record-requires
load_record-requires c =
    let t =
    turn c.args.b.now _ (length c.loop-at.yielded) c.in-Some.at
    (YieldsList-turn (YieldsList-at c.into_iter-at-iterator.ensures.into_iter_gives (YieldsList-from_first _ _ _ c.first_records-at-items.ensures)) c.loop-at.yielded _ c.loop-at.yielded_by _ c.next.new.self c.in-Some.at c.in-Some.is c.next.ensures.steps) in
    let w = c.loop-at.invariant in
    let n = c.count_of.ensures in
    record { s_value = w.keeps; s_bound = omega (arith, w.live, w.capacity, c.requires.b_bound, t.0); at_in_bounds = accepted_within _ c.requires.b_value _ _ t.1 (omega (arith, t.0)); loads = record_loads _ c.requires.b_value _ _ t.1 (omega (arith, t.0)) }

pub loop-at-preserved : goal.loop-at-preserved
loop-at-preserved c =
    let t =
    turn c.args.b.now _ (length c.loop-at.yielded) c.in-Some.at
    (YieldsList-turn (YieldsList-at c.into_iter-at-iterator.ensures.into_iter_gives (YieldsList-from_first _ _ _ c.first_records-at-items.ensures)) c.loop-at.yielded _ c.loop-at.yielded_by _ c.next.new.self c.in-Some.at c.in-Some.is c.next.ensures.steps) in
    let n = c.count_of.ensures in
    rw (length_push c.loop-at.yielded c.in-Some.at)
    (goes_on _ _ _ _ c.loop-at.invariant c.requires.b_value c.requires.b_bound (omega (arith, t.0)) _ t.1 _ c.load_record.ensures)

pub shape_of-s : goal.shape_of-s
shape_of-s c = c.loop-at.invariant.long

pub returns : goal.returns
returns c =
    let e =
    last_turn c.args.b.now _ (length c.loop-at.yielded)
    (YieldsList-end (YieldsList-at c.into_iter-at-iterator.ensures.into_iter_gives (YieldsList-from_first _ _ _ c.first_records-at-items.ensures)) c.loop-at.yielded _ c.loop-at.yielded_by _ c.next.new.self c.in-None.is c.next.ensures.steps).1 in
    loaded _ _ _ _ c.loop-at.invariant (omega (arith, e, c.count_of.ensures))
