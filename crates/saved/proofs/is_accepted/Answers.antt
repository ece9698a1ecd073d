-- `saved::is_accepted` meets its contract. Assumes nothing.
use Rattle.std.proofs.Common.{ℕ, not, [], sym, ap, ◌∙◌, arith}
use borrow.Author.Tests.{not-true, not-false}
use Rattle.rules.specs.Saved.{saved_nodes_at}
use Rattle.saved.specs.Scan.{all_placed}
use Rattle.saved_parts.proofs.Gets.{options_room}
use Rattle.saved.proofs.Split.{not_framed, not_sound, by_pairs, sound_by}
use Rattle.saved.proofs.Accepted.{frame_long}
use Rattle.saved.proofs.Walk.{sound_ends}
use Rattle.saved.proofs.is_accepted.Goals as goal

pub returns-then-not-is_framed : goal.returns-then-not-is_framed
returns-then-not-is_framed c = sym (not_framed _ (sym c.is_framed.ensures ∙ not-true _ (ap not c.if-not-is_framed.true)))

pub count_of-count-requires : goal.count_of-count-requires
count_of-count-requires c = let l = frame_long _ (sym c.is_framed.ensures ∙ not-false _ (ap not c.if-not-is_framed.false)) in omega arith

pub start-requires : goal.start-requires
start-requires c = frame_long _ (sym c.is_framed.ensures ∙ not-false _ (ap not c.if-not-is_framed.false))

pub next_of-requires : goal.next_of-requires
next_of-requires c = let l = frame_long _ (sym c.is_framed.ensures ∙ not-false _ (ap not c.if-not-is_framed.false)) in omega arith

pub are_sound-requires : goal.are_sound-requires
are_sound-requires c =
    let l = frame_long _ (sym c.is_framed.ensures ∙ not-false _ (ap not c.if-not-is_framed.false)) in
    omega (arith, options_room _ _ l c.start.ensures)

pub are_placed-requires : goal.are_placed-requires
are_placed-requires c =
    let l = frame_long _ (sym c.is_framed.ensures ∙ not-false _ (ap not c.if-not-is_framed.false)) in
    omega (arith, sound_ends _ _ _ _ _ (sym c.are_sound.ensures ∙ c.if-are_sound.true), options_room _ _ l c.start.ensures)

pub returns-then-are_sound : goal.returns-then-are_sound
returns-then-are_sound c =
    c.are_placed.ensures ∙ ap (λ (k : ℕ). all_placed [] (saved_nodes_at c.args.b.now k 0)) c.count_of-count.ensures
    ∙ by_pairs _ (sym c.is_framed.ensures ∙ not-false _ (ap not c.if-not-is_framed.false))
    (sound_by _ _ _ _ _ c.start.ensures c.next_of.ensures c.count_of-count.ensures c.are_sound.ensures ∙ c.if-are_sound.true)

pub returns-else-are_sound : goal.returns-else-are_sound
returns-else-are_sound c =
    let s = sound_by _ _ _ _ _ c.start.ensures c.next_of.ensures c.count_of-count.ensures c.are_sound.ensures ∙ c.if-are_sound.false in
    c.if-are_sound.false ∙ sym (not_sound _ s)
