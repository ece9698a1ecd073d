-- `saved::fill` meets its contract. The invariant: the first are put down. Assumes nothing.
use Rattle.std.proofs.Common.{ℕ, length, refl, ap, ◌∙◌, arith}
use Rattle.rules.specs.Saved.{saved_node_at}
use Rattle.saved.specs.Scan.{start_of}
use Rattle.saved.specs.Kept.{key_at}
use Rattle.saved.proofs.Walk.{start_next, within}
use Rattle.saved.proofs.Keeping.{keeps_more}
use Rattle.saved.proofs.fill.Goals as goal

pub loop-r-init : goal.loop-r-init
unfolding start_of
loop-r-init c = (refl, λ j h d. absurd (omega arith))

pub number_at-requires : goal.number_at-requires
number_at-requires c =
    let l = c.loop-r in
    omega (arith, within c.args.b.now (length c.args.kept.now) l.r-index l.at l.invariant.0)

pub key_at-requires : goal.key_at-requires
key_at-requires c =
    let l = c.loop-r in
    omega (arith, within c.args.b.now (length c.args.kept.now) l.r-index l.at l.invariant.0)

pub record_end-at-requires : goal.record_end-at-requires
record_end-at-requires c =
    let l = c.loop-r in
    omega (arith, within c.args.b.now (length c.args.kept.now) l.r-index l.at l.invariant.0)

pub loop-r-preserved : goal.loop-r-preserved
loop-r-preserved c =
    let l = c.loop-r in
    let b = c.args.b.now in
    let e = l.invariant.0 in (
      c.record_end-at.ensures ∙ start_next b l.r-index l.at e,
      keeps_more b l.kept l.r-index _ (omega arith)
          (λ t. record { start = e t; number = (c.number_at.ensures ∙ ap (λ (p : ℕ). (saved_node_at b p).number) e) t; key = (c.key_at.ensures ∙ ap (key_at b) e) t })
          l.invariant.1,
    )
