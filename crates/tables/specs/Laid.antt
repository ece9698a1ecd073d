-- The layout rule: what every call tests first, in constant time, and keeps.
use Rattle.std.specs.Prelude.{ℕ, ◌≤◌, ◌<◌, Bool, not, List, [], ◌∷◌, length, leb, ltb, eqb}
use Rattle.rules.specs.Numbers.{first_number, max_nodes, top_number, storage_for}
use Rattle.rules.specs.Ids.{bad_mapping}
use Rattle.rules.specs.Create.{too_small, bad_options}
use Rattle.rules.specs.Tests.{every}
use Rattle.tables.specs.Layout.{mark, table_at, capacity_of, count_of, next_of, capacity_field, count_field, known_field, mapping_field, mark_field, next_field}
use Rattle.tables.specs.View.{field, mapping_from, options_from, head_of}

-- of the header's cells and the number of bytes: header and slots have room, the mark stands, the root and the nodes are at most N, the next number is within its limits; and N, the number of
-- bytes, the options and the mapping in force pass the tests of creation (R20, R22)
unfoldable pub laid_by : List (List ℕ) → ℕ → Bool
laid_by h bytes =
    every
    (leb table_at bytes
    ∷ eqb (field mark_field h) mark
    ∷ not (too_small bytes (field capacity_field h))
    ∷ ltb (field count_field h) (field capacity_field h)
    ∷ leb first_number (field next_field h)
    ∷ leb (field next_field h) top_number
    ∷ not (bad_options (field known_field h) (options_from h))
    ∷ not (bad_mapping (mapping_from mapping_field h))
    ∷ [])

-- of the bytes (R21)
unfoldable pub laid : List ℕ → Bool
laid mem = laid_by (head_of mem) (length mem)

-- what follows from it for places of rows and for new numbers: the bounds that inner functions ask for
pub record Bounds (mem : List ℕ) : Type 0 where
  pub few_nodes : capacity_of mem ≤ max_nodes
  pub long : storage_for (capacity_of mem) ≤ length mem
  pub live : count_of mem < capacity_of mem
  pub top : next_of mem ≤ top_number
