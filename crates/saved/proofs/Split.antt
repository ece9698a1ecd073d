-- The clauses of `accepted` in groups: of the last bytes, of each record, of the pairs of records. Assumes nothing.
use Rattle.std.proofs.Common.{◌≡◌, ℕ, Bool, true, false, not, ◌&&◌, eqb, ltb, leb, List, [], ◌∷◌, ◌++◌, sym, refl, ◌∙◌}
use mathlib.Core.Bool.{and-true, and-false, and_assoc}
use Rattle.rules.specs.Numbers.{top_number}
use Rattle.rules.specs.Tests.{every}
use Rattle.rules.specs.Saved.{SavedNode, saved_nodes_at, end_at, options_start, saved_records, saved_next, state_of, frame, laid_out, last_number, present, used, good_name, good_node, good_nodes, valid, accepted}
use Rattle.saved.specs.Scan.{framed, sound, all_sound, sound_to, well_placed, all_placed}

every_append : (xs ys : List Bool) → every (xs ++ ys) ≡ (every xs && every ys)
unfolding every
every_append [] ys = refl
every_append (x ∷ xs) ys = rw (every_append xs ys) (sym (and_assoc x (every xs) (every ys)))

every_one : (t : Bool) → every (t ∷ []) ≡ t
unfolding every
every_one t = and-true t

middle : (s p S P : Bool) → ((s && p) && (S && P)) ≡ ((s && S) && (p && P))
middle false p S P = refl
middle true false false P = refl
middle true false true P = refl
middle true true S P = refl

-- ---- records

node_split : (next : ℕ) (before : List SavedNode) (n : SavedNode) → good_node next before n ≡ (sound next (last_number before) n && well_placed before n)
unfolding good_node sound well_placed
node_split next before n =
    every_append (ltb (last_number before) n.number ∷ ltb n.number next ∷ good_name n.name ∷ [])
    (present n.parent before ∷ not (used n.parent n.name before) ∷ [])

-- the law: all pass the one group and all pass the other
nodes_split : (next : ℕ) (before ns : List SavedNode) → good_nodes next before ns ≡ (all_sound next (last_number before) ns && all_placed before ns)
unfolding good_nodes all_sound all_placed last_number
nodes_split next before [] = refl
nodes_split next before (n ∷ ns) =
    rw (node_split next before n, nodes_split next (n ∷ before) ns)
    (middle (sound next (last_number before) n) (well_placed before n) (all_sound next n.number ns) (all_placed (n ∷ before) ns))

-- ---- the whole

shuffle : (A E B S P : Bool) → ((A && E) && (B && (S && P))) ≡ ((A && B) && ((E && S) && P))
shuffle false E B S P = refl
shuffle true false false S P = refl
shuffle true false true S P = refl
shuffle true true false S P = refl
shuffle true true true S P = refl

module _ (b : List ℕ) where
  abbrev bounds : List Bool
  bounds = leb 2 (saved_next b) ∷ leb (saved_next b) top_number ∷ []

  abbrev filled : Bool
  filled = eqb (end_at b (saved_records b) 0) (options_start b)

  abbrev records : List SavedNode
  records = saved_nodes_at b (saved_records b) 0

  laid_split : laid_out b ≡ (every (frame b) && filled)
  unfolding laid_out
  laid_split = every_append (frame b) (filled ∷ []) ∙ rw (every_one filled)

  valid_split : valid (state_of b) ≡ (every bounds && (all_sound (saved_next b) 1 records && all_placed [] records))
  unfolding valid state_of last_number
  valid_split = every_append bounds (good_nodes (saved_next b) [] records ∷ []) ∙ rw (every_one (good_nodes (saved_next b) [] records), nodes_split (saved_next b) [] records)

  framed_split : framed b ≡ (every (frame b) && every bounds)
  unfolding framed
  framed_split = every_append (frame b) bounds

  sound_split : sound_to b (saved_next b) (options_start b) (saved_records b) 0 1 ≡ (filled && all_sound (saved_next b) 1 records)
  unfolding sound_to
  sound_split = every_append (filled ∷ []) (all_sound (saved_next b) 1 records ∷ []) ∙ rw (every_one filled, every_one (all_sound (saved_next b) 1 records))

  pub accepted_split : accepted b ≡ (framed b && (sound_to b (saved_next b) (options_start b) (saved_records b) 0 1 && all_placed [] records))
  unfolding accepted
  accepted_split =
      rw (laid_split, valid_split, framed_split, sound_split)
      (shuffle (every (frame b)) filled (every bounds) (all_sound (saved_next b) 1 records) (all_placed [] records))

  -- where a part fails, and where the first two hold
  pub not_framed : framed b ≡ false → accepted b ≡ false
  not_framed e = rw (accepted_split, e)

  pub not_sound : sound_to b (saved_next b) (options_start b) (saved_records b) 0 1 ≡ false → accepted b ≡ false
  not_sound e = rw (accepted_split, e, and-false)

  pub by_pairs : framed b ≡ true → sound_to b (saved_next b) (options_start b) (saved_records b) 0 1 ≡ true → all_placed [] records ≡ accepted b
  by_pairs e f = rw (accepted_split, e, f)

  -- the answer of the one pass, for the end, the next number and the count that were read
  pub sound_by : (to next count : ℕ) (r : Bool) → to ≡ options_start b → next ≡ saved_next b → count ≡ saved_records b → r ≡ sound_to b next to count 0 1
      → sound_to b (saved_next b) (options_start b) (saved_records b) 0 1 ≡ r
  sound_by to next count r d e f g = sym (g ∙ rw (d, e, f))
