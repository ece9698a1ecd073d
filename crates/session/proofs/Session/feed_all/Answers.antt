-- The feeds so far have led to what is left of the read; a law for each return.
use borrow.Author.Rules.{rules}
use native.Mathlib.Omega.{arith}
use Prim.Native.Nat.{◌-◌}
use lib.ListN.{length, drop, length-drop}
use lib.Seq.{take_all}
use Rattle.std.proofs.lemmas.Result.{err_from_is_err_and}
use Rattle.session.proofs.Feeding.{Moves, so_far_start, moves, fed_ok, fed_all, fed_part}
use Rattle.session.proofs.Session.feed_all.Goals as goal
use Rattle.session.proofs.Session.feed_all.Goals.{After-unwrap-fed}

-- what the feed of a turn of the loop leaves to say
fed : (c : After-unwrap-fed) → Moves 65536 c.args.self.now.storage c.args.self.now.carry c.args.self.now.kept c.args.piece.now c.feed.new.s c.feed.new.carry c.loop-rest.rest.now c.unwrap-fed.result
fed c = moves _ _ _ _ _ _ _ _ _ c.loop-rest.invariant _ _ _ _ _ c.feed.ensures (omega arith) (omega arith) (search rules) _ c.unwrap-fed.ensures

pub loop-rest-init : goal.loop-rest-init
loop-rest-init c = so_far_start _ _ _ _ _ (omega arith) c.args.self.now.kept_bound

pub invariant_of-self : goal.invariant_of-self
invariant_of-self c = record { kept_bound = (fed (goal.at.invariant_of-self c).After-unwrap-fed).few }

pub shared_ref_as_front-write_all : goal.shared_ref_as_front-write_all
shared_ref_as_front-write_all c = (fed (goal.at.shared_ref_as_front-write_all c).After-unwrap-fed).fits

pub returns-in_err-write_all : goal.returns-in_err-write_all
returns-in_err-write_all c =
    let p = err_from_is_err_and c.from_residual.result c.from_residual.ensures.1 in
    rw p.1 (fed_part _ _ _ _ _ _ _ _ _ (fed (goal.at.returns-in_err-write_all c).After-unwrap-fed).so_far)

pub slice_bounds-rest-count : goal.slice_bounds-rest-count
slice_bounds-rest-count c = (fed (goal.at.slice_bounds-rest-count c).After-unwrap-fed).most

pub slice_bounds-rest-start : goal.slice_bounds-rest-start
slice_bounds-rest-start c = let m = fed (goal.at.slice_bounds-rest-start c).After-unwrap-fed in search rules

pub loop-rest-smaller : goal.loop-rest-smaller
loop-rest-smaller c = let m = fed (goal.at.loop-rest-smaller c).After-unwrap-fed in search rules

pub loop-rest-preserved : goal.loop-rest-preserved
loop-rest-preserved c =
    let m = fed (goal.at.loop-rest-preserved c).After-unwrap-fed in
    let rest = c.loop-rest.rest.now in
    let used = c.unwrap-fed.result.used in
    rw (take_all (length rest - used) (drop used rest) (omega (arith, length-drop used rest))) m.so_far
