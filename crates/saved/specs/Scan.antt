-- The records of saved bytes as a walk meets them, and the clauses of `accepted` in two groups: those that one record and the
-- number before it decide, and those of pairs.
use Rattle.std.specs.Prelude.{ℕ, zero, suc, Bool, true, not, ◌&&◌, List, [], ◌∷◌, ◌++◌, ◌==◌, nat_le, nat_lt}
use Rattle.rules.specs.Numbers.{first_number, top_number}
use Rattle.rules.specs.Bytes.{same}
use Rattle.rules.specs.Tests.{every}
use Rattle.rules.specs.Saved.{SavedNode, saved_node_at, behind, saved_nodes_at, end_at, saved_next, frame, present, used, good_name}

-- where record i starts
unfoldable pub start_of : List ℕ → ℕ → ℕ
start_of b zero = 0
start_of b (suc i) = behind b (start_of b i)

-- the first i records, the nearest first
unfoldable pub earlier : List ℕ → ℕ → List SavedNode
earlier b zero = []
earlier b (suc i) = saved_node_at b (start_of b i) ∷ earlier b i

-- of the length, the trailer and the options (R129 a, b, d, e, f, h)
unfoldable pub framed : List ℕ → Bool
framed b = every (frame b ++ (nat_le first_number (saved_next b) ∷ nat_le (saved_next b) top_number ∷ []))

-- of one record, behind one with the number `last` (R129 g, h, j)
unfoldable pub sound : ℕ → ℕ → SavedNode → Bool
sound next last n = every (nat_lt last n.number ∷ nat_lt n.number next ∷ good_name n.name ∷ [])

-- of each record, behind the one before it
unfoldable pub all_sound : ℕ → ℕ → List SavedNode → Bool
all_sound next last [] = true
all_sound next last (n ∷ ns) = sound next last n && all_sound next n.number ns

-- the k records from a place on end at another, and are sound (R129 c, g, h, j)
unfoldable pub sound_to : List ℕ → ℕ → ℕ → ℕ → ℕ → ℕ → Bool
sound_to b next to k at last = every ((end_at b k at == to) ∷ all_sound next last (saved_nodes_at b k at) ∷ [])

-- one parent, equal names (R129 k)
unfoldable pub twin : SavedNode → SavedNode → Bool
twin m n = m.parent == n.parent && same m.name n.name

-- of a record and those before it (R129 i, k)
unfoldable pub well_placed : List SavedNode → SavedNode → Bool
well_placed before n = every (present n.parent before ∷ not (used n.parent n.name before) ∷ [])

-- of each record and those before it
unfoldable pub all_placed : List SavedNode → List SavedNode → Bool
all_placed before [] = true
all_placed before (n ∷ ns) = well_placed before n && all_placed (n ∷ before) ns
