-- Ids: one range mapped out and back.
use Rattle.std.specs.Prelude.{ℕ, ◌+◌, ◌-◌, ◌%◌, ◌^◌, Bool, cond, ◌&&◌, ◌||◌, List, leb, ltb}
use Rattle.rules.specs.Fields.{get}

-- (internal start, external start, range); range 0 means no mapping (R27, R112)
pub record Mapping : Type 0 where
  pub internal : ℕ
  pub external : ℕ
  pub range : ℕ

-- of three numbers in the order in which they stand in bytes (R27, R121)
abbrev pub mapping_by : ℕ → ℕ → ℕ → Mapping
mapping_by internal external range = record { internal = internal; external = external; range = range }

-- the mapping whose numbers, of four bytes each, stand at a place (R27, R121)
abbrev pub mapping_at : List ℕ → ℕ → Mapping
mapping_at b at = mapping_by (get 4 b at) (get 4 b (at + 4)) (get 4 b (at + 8))

-- the same mapping the other way round (R114)
abbrev pub turned : Mapping → Mapping
turned m = record { internal = m.external; external = m.internal; range = m.range }

-- a start plus the range is above 2^32 − 1 (R30)
unfoldable pub bad_mapping : Mapping → Bool
bad_mapping m = ltb (2 ^ 32 - 1) (m.internal + m.range) || ltb (2 ^ 32 - 1) (m.external + m.range)

-- the id lies in [internal, internal + range); with range 0 no id does (R112, R113)
unfoldable pub inside : Mapping → ℕ → Bool
inside m id = leb m.internal id && ltb id (m.internal + m.range)

-- out: id − internal + external, as whole numbers, where the id is inside (R113, R115)
unfoldable pub mapped : Mapping → ℕ → ℕ
mapped m id = cond (inside m id) (id - m.internal + m.external) id

-- and back (R114)
unfoldable pub unmapped : Mapping → ℕ → ℕ
unmapped m id = mapped (turned m) id

-- out by a difference that wraps in 32 bits: what is done with every mapping, also one that creation would refuse (R24, R115, R117)
unfoldable pub wrapped : Mapping → ℕ → ℕ
wrapped m id = cond (leb m.internal id && ltb (id - m.internal) m.range) ((id + (m.external + 2 ^ 32 - m.internal) % 2 ^ 32) % 2 ^ 32) id

-- and back (R24, R114, R115, R117)
unfoldable pub unwrapped : Mapping → ℕ → ℕ
unwrapped m id = wrapped (turned m) id
