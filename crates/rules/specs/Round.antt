-- The search for an index: which indexes are met, which of them are visited, and which is found. It goes over a test of "free".
use Rattle.std.specs.Prelude.{ℕ, zero, suc, ◌+◌, ◌%◌, Bool, cond, not, ◌&&◌, List, [], ◌∷◌, length, eqb, Option, None, Some}

-- the index after i: after 255 comes 0 (R80)
abbrev pub after : ℕ → ℕ
after i = (i + 1) % 256

-- the n indexes that are met from i on (R80)
unfoldable pub going_round : ℕ → ℕ → List ℕ
going_round zero i = []
going_round (suc n) i = i ∷ going_round n (after i)

-- until the start is met twice: the start, the 255 others, and the start again (R81)
unfoldable pub until_twice : ℕ → List ℕ
until_twice start = going_round 257 start

-- of the indexes met, those that are visited: up to the first that is free, which is visited too, or all of them (R81)
unfoldable pub visited : (ℕ → Bool) → List ℕ → List ℕ
visited free [] = []
visited free (i ∷ is) = i ∷ cond (free i) [] (visited free is)

-- the first free one of the indexes met (R81)
unfoldable pub first_free : (ℕ → Bool) → List ℕ → Option ℕ
first_free free [] = None
first_free free (i ∷ is) = cond (free i) (Some i) (first_free free is)

-- an index can be handed out: it is not 0, and not held (R11, R81)
abbrev pub free_of : (ℕ → Bool) → ℕ → Bool
free_of held i = not (eqb i 0) && not (held i)

-- what a search finds and visits, and the counter after it; its count is the length of the visited list (R82)
pub record Allocation : Type 0 where
  pub found : Option ℕ
  pub visits : List ℕ
  pub counter : ℕ

-- the search over the indexes that are held, from a counter on; the counter moves by the count (R24, R80 to R84)
unfoldable pub allocate : (ℕ → Bool) → ℕ → Allocation
allocate held counter =
    let met = until_twice counter in
    let seen = visited (free_of held) met in
    record { found = first_free (free_of held) met; visits = seen; counter = (counter + length seen) % 256 }
