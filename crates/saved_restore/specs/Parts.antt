-- The bytes that the parts of a state restore leave.
use Rattle.std.specs.Prelude.{ℕ, ◌^◌, ◌≤◌, ◌<◌, Bool, not, List, [], ◌∷◌, length, eqb}
use Rattle.rules.specs.Numbers.{max_name}
use Rattle.le.specs.Mem.{bytes_of}
use Rattle.rules.specs.Instance.{Options}
use Rattle.rules.specs.Saved.{SavedNode, State}
use Rattle.tables.specs.Layout.{counter_field, in_opts_field}
use Rattle.tables.specs.Write.{put_header, set_next, yes_byte, append_node}

-- ---- the records

-- what a row needs of a record
pub record Loads (e : SavedNode) : Type 0 where
  pub low : 2 ≤ e.number
  pub top : e.number < 2 ^ 56
  pub parent : e.parent < 2 ^ 56
  pub short : length e.name ≤ max_name

-- its number becomes the next one, and the row is appended (R134)
unfoldable pub load_node : SavedNode → List ℕ → List ℕ
load_node e mem = append_node e.parent e.name (set_next e.number mem)

-- one after another
unfoldable pub load_nodes : List SavedNode → List ℕ → List ℕ
load_nodes [] mem = mem
load_nodes (e ∷ es) mem = load_nodes es (load_node e mem)

-- ---- the header: a cell without bytes stays

-- a bit is set
abbrev pub has_bits : ℕ → Bool
has_bits bits = not (eqb bits 0)

-- from in_opts to the flags; the mapping in force stands between
abbrev pub option_cells : Options → List (List ℕ)
option_cells o =
    bytes_of 8 o.in_opts
    ∷ bytes_of 8 o.out_opts
    ∷ []
    ∷ []
    ∷ []
    ∷ bytes_of 4 o.mapping.internal
    ∷ bytes_of 4 o.mapping.external
    ∷ bytes_of 4 o.mapping.range
    ∷ bytes_of 1 o.flags
    ∷ []

-- the options are the state's, with their own mapping (R34, R134)
unfoldable pub set_options : Options → List ℕ → List ℕ
set_options o mem = put_header in_opts_field (option_cells o) mem

-- next number, options, counter, and whether in_opts has a bit; mask, mapping in force and remove flag stand between (R134)
unfoldable pub set_state : ℕ → ℕ → Options → List ℕ → List ℕ
set_state next counter o mem = put_header counter_field (bytes_of 1 counter ∷ [] ∷ bytes_of 1 (yes_byte (has_bits o.in_opts)) ∷ []) (set_options o (set_next next mem))

-- ---- both

-- the records behind the rows that stand, and then the header
unfoldable pub state_mem : State → List ℕ → List ℕ
state_mem s mem = set_state s.next s.counter s.options (load_nodes s.nodes mem)
