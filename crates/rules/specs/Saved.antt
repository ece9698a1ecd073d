-- The saved state, version 1: what it says, how it is written, and which bytes are accepted. Reading is total, and tests judge what was read.
use Rattle.std.specs.Prelude.{ℕ, zero, suc, ◌+◌, ◌-◌, Bool, true, false, not, ◌&&◌, ◌||◌, List, [], ◌∷◌, ◌++◌, length, leb, ltb, eqb}
use Rattle.rules.specs.Tests.{every}
use Rattle.rules.specs.Numbers.{root_number, first_number, top_number, max_name}
use Rattle.rules.specs.Bytes.{same, holds}
use Rattle.rules.specs.Utf8.{well_formed}
use Rattle.rules.specs.Path.{slash, is_dot, is_dots}
use Rattle.rules.specs.Fields.{read, fields, row_length, field_at}
use Rattle.rules.specs.Ids.{mapping_by}
use Rattle.rules.specs.Instance.{Options, flag_limit}

-- a node, as it is saved (R120)
pub record SavedNode : Type 0 where
  pub number : ℕ
  pub parent : ℕ
  pub name : List ℕ

-- the nodes, root left out, in table order; mounts are not saved (R126, R127)
pub record State : Type 0 where
  pub nodes : List SavedNode
  pub options : Options
  pub next : ℕ
  pub counter : ℕ

-- ---- rows: the widths of the fields, and the number of each among them; writing and reading both go by them

-- number, parent, name length; the name follows (R120)
abbrev pub node_row : List ℕ
node_row = 8 ∷ 8 ∷ 2 ∷ []

-- the number
abbrev pub record_number_field : ℕ
record_number_field = 0

-- the parent's number
abbrev pub record_parent_field : ℕ
record_parent_field = 1

-- the length of the name
abbrev pub record_name_field : ℕ
record_name_field = 2

-- in_opts, out_opts, internal, external, range, flags, three zeros (R121)
abbrev pub options_row : List ℕ
options_row = 8 ∷ 8 ∷ 4 ∷ 4 ∷ 4 ∷ 1 ∷ 3 ∷ []

-- in_opts
abbrev pub saved_in_opts_field : ℕ
saved_in_opts_field = 0

-- out_opts
abbrev pub saved_out_opts_field : ℕ
saved_out_opts_field = 1

-- the mapping's start inside
abbrev pub saved_internal_field : ℕ
saved_internal_field = 2

-- its start outside
abbrev pub saved_external_field : ℕ
saved_external_field = 3

-- its range
abbrev pub saved_range_field : ℕ
saved_range_field = 4

-- the flags
abbrev pub saved_flags_field : ℕ
saved_flags_field = 5

-- the zeros behind them
abbrev pub saved_zeros_field : ℕ
saved_zeros_field = 6

-- offset of the options, node count, next number, counter, version 1, six zeros (R123)
abbrev pub trailer_row : List ℕ
trailer_row = 4 ∷ 4 ∷ 8 ∷ 1 ∷ 1 ∷ 6 ∷ []

-- where the options stand
abbrev pub trailer_offset_field : ℕ
trailer_offset_field = 0

-- how many records there are
abbrev pub trailer_records_field : ℕ
trailer_records_field = 1

-- the next number
abbrev pub trailer_next_field : ℕ
trailer_next_field = 2

-- the counter
abbrev pub trailer_counter_field : ℕ
trailer_counter_field = 3

-- the version
abbrev pub trailer_version_field : ℕ
trailer_version_field = 4

-- the zeros behind it
abbrev pub trailer_zeros_field : ℕ
trailer_zeros_field = 5

-- the bytes behind the records: the options and the trailer (R119, R129 a)
abbrev pub tail_length : ℕ
tail_length = row_length options_row + row_length trailer_row

-- the version (R123)
abbrev pub saved_version : ℕ
saved_version = 1

-- ---- written

-- a record before its name (R120)
abbrev pub head_bytes : ℕ → ℕ → ℕ → List ℕ
head_bytes number parent len = fields node_row (number ∷ parent ∷ len ∷ [])

-- a node record (R120)
unfoldable pub node_bytes : SavedNode → List ℕ
node_bytes n = head_bytes n.number n.parent (length n.name) ++ n.name

-- the node records, one behind the other (R120)
unfoldable pub nodes_bytes : List SavedNode → List ℕ
nodes_bytes [] = []
nodes_bytes (n ∷ ns) = node_bytes n ++ nodes_bytes ns

-- the values of that row (R121)
abbrev pub options_values : Options → List ℕ
options_values o = o.in_opts ∷ o.out_opts ∷ o.mapping.internal ∷ o.mapping.external ∷ o.mapping.range ∷ o.flags ∷ 0 ∷ []

-- the options (R121)
unfoldable pub options_bytes : Options → List ℕ
options_bytes o = fields options_row (options_values o)

-- the trailer (R123)
unfoldable pub trailer_bytes : ℕ → ℕ → ℕ → ℕ → List ℕ
trailer_bytes offset count next counter = fields trailer_row (offset ∷ count ∷ next ∷ counter ∷ saved_version ∷ 0 ∷ [])

-- the node records, the options, the trailer, and nothing else (R119)
unfoldable pub encode : State → List ℕ
encode s =
    nodes_bytes s.nodes
    ++ (options_bytes s.options ++ trailer_bytes (length (nodes_bytes s.nodes)) (length s.nodes) s.next s.counter)

-- ---- read: any bytes

-- how long the name of the record at a place is (R120)
abbrev pub name_length : List ℕ → ℕ → ℕ
name_length b at = field_at node_row record_name_field b at

-- where the name of the record at a place stands (R120)
abbrev pub name_start : ℕ → ℕ
name_start at = at + row_length node_row

-- the record at a place (R120)
unfoldable pub saved_node_at : List ℕ → ℕ → SavedNode
saved_node_at b at = record {
  number = field_at node_row record_number_field b at;
  parent = field_at node_row record_parent_field b at;
  name = read b (name_start at) (name_length b at);
}

-- where the record at a place ends
abbrev pub behind : List ℕ → ℕ → ℕ
behind b at = name_start at + name_length b at

-- the k records from a place on
unfoldable pub saved_nodes_at : List ℕ → ℕ → ℕ → List SavedNode
saved_nodes_at b zero at = []
saved_nodes_at b (suc k) at = saved_node_at b at ∷ saved_nodes_at b k (behind b at)

-- where the k records from a place on end
unfoldable pub end_at : List ℕ → ℕ → ℕ → ℕ
end_at b zero at = at
end_at b (suc k) at = end_at b k (behind b at)

-- the options at a place (R121)
unfoldable pub saved_options_at : List ℕ → ℕ → Options
saved_options_at b at = record {
  in_opts = field_at options_row saved_in_opts_field b at;
  out_opts = field_at options_row saved_out_opts_field b at;
  mapping = mapping_by (field_at options_row saved_internal_field b at) (field_at options_row saved_external_field b at) (field_at options_row saved_range_field b at);
  flags = field_at options_row saved_flags_field b at;
}

-- where the options stand: they and the trailer are the last bytes (R119, R121)
unfoldable pub options_start : List ℕ → ℕ
options_start b = length b - tail_length

-- where the trailer stands: it is the last row (R119, R123)
unfoldable pub trailer_start : List ℕ → ℕ
trailer_start b = length b - row_length trailer_row

-- a field of the options (R121)
abbrev pub options_field : ℕ → List ℕ → ℕ
options_field k b = field_at options_row k b (options_start b)

-- a field of the trailer (R123)
abbrev pub trailer_field : ℕ → List ℕ → ℕ
trailer_field k b = field_at trailer_row k b (trailer_start b)

-- the offset of the options, as the trailer says it (R123)
unfoldable pub saved_offset : List ℕ → ℕ
saved_offset b = trailer_field trailer_offset_field b

-- the number of node records, as the trailer says it (R123)
unfoldable pub saved_records : List ℕ → ℕ
saved_records b = trailer_field trailer_records_field b

-- the next number (R123)
unfoldable pub saved_next : List ℕ → ℕ
saved_next b = trailer_field trailer_next_field b

-- the counter (R123)
unfoldable pub saved_counter : List ℕ → ℕ
saved_counter b = trailer_field trailer_counter_field b

-- the state that any bytes spell
unfoldable pub state_of : List ℕ → State
state_of b = record { nodes = saved_nodes_at b (saved_records b) 0; options = saved_options_at b (options_start b); next = saved_next b; counter = saved_counter b }

-- ---- judged

-- not short (R129 a), the offset (b), the version (d), the zero bytes (e), the flags (f)
abbrev pub frame : List ℕ → List Bool
frame b =
    leb tail_length (length b)
    ∷ eqb (saved_offset b) (options_start b)
    ∷ eqb (trailer_field trailer_version_field b) saved_version
    ∷ eqb (trailer_field trailer_zeros_field b) 0
    ∷ eqb (options_field saved_zeros_field b) 0
    ∷ ltb (options_field saved_flags_field b) flag_limit
    ∷ []

-- and the records fill the bytes exactly (R129 c)
unfoldable pub laid_out : List ℕ → Bool
laid_out b = every (frame b ++ (eqb (end_at b (saved_records b) 0) (options_start b) ∷ []))

-- a record is judged among those before it, the nearest first; the root stands before all (R129 g)
unfoldable pub last_number : List SavedNode → ℕ
last_number [] = root_number
last_number (m ∷ ms) = m.number

-- the parent is 1 or an earlier record (R129 i)
unfoldable pub present : ℕ → List SavedNode → Bool
present x [] = eqb x root_number
present x (m ∷ ms) = eqb m.number x || present x ms

-- the name is there already under that parent (R129 k)
unfoldable pub used : ℕ → List ℕ → List SavedNode → Bool
used x p [] = false
used x p (m ∷ ms) = (eqb m.parent x && same m.name p) || used x p ms

-- not empty, at most 255 bytes, no slash, not `.` or `..` itself, UTF-8 (R10, R129 j)
unfoldable pub good_name : List ℕ → Bool
good_name p = every (leb 1 (length p) ∷ leb (length p) max_name ∷ not (holds slash p) ∷ not (is_dot p) ∷ not (is_dots p) ∷ well_formed p ∷ [])

-- strictly rising from 2 up (R129 g), below the next number (h), with a good name (j), a parent that is there (i), no equal name beside it (k)
unfoldable pub good_node : ℕ → List SavedNode → SavedNode → Bool
good_node next before n =
    every
    (ltb (last_number before) n.number
    ∷ ltb n.number next
    ∷ good_name n.name
    ∷ present n.parent before
    ∷ not (used n.parent n.name before)
    ∷ [])

-- each record, among those before it (R129 g to k)
unfoldable pub good_nodes : ℕ → List SavedNode → List SavedNode → Bool
good_nodes next before [] = true
good_nodes next before (n ∷ ns) = good_node next before n && good_nodes next (n ∷ before) ns

-- the next number is from 2 to 2^56 (R129 h), and the records are good
unfoldable pub valid : State → Bool
valid s = every (leb first_number s.next ∷ leb s.next top_number ∷ good_nodes s.next [] s.nodes ∷ [])

-- what BADSAVE refuses is what is not accepted (R129)
unfoldable pub accepted : List ℕ → Bool
accepted b = laid_out b && valid (state_of b)
