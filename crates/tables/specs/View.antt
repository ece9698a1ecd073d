-- The instance that bytes stand for. Every bit pattern of a cell is a value, so all bytes that keep the layout rule stand for one.
use Rattle.std.specs.Prelude.{ℕ, ◌+◌, ◌-◌, ◌/◌, ◌%◌, ◌^◌, min, Bool, cond, not, List, [], ◌∷◌, ◌++◌, get_or, take, eqb, Option, None, Some}
use Rattle.le.specs.Mem.{value}
use Rattle.rules.specs.Ids.{Mapping, mapping_by}
use Rattle.rules.specs.Tree.{Mount, Node}
use Rattle.rules.specs.Instance.{Options, Slot, Instance}
use Rattle.tables.specs.Table.{row, tab}
use Rattle.tables.specs.Layout.{header, slot_table, node_table, capacity_field, count_field, counter_field, first_column, flags_field, gid_column, held_column, in_opts_field, initialized_field, known_field, last_column, mapping_field, mode_column, mount_column, next_field, number_column, out_opts_field, own_mapping_field, parent_column, removal_field, root_cell_field, root_gid_field, root_mode_field, root_uid_field, tag_column, uid_column}

-- cell k of a row
abbrev pub cell : ℕ → List (List ℕ) → List ℕ
cell k cells = get_or cells k []

-- the number in it
abbrev pub field : ℕ → List (List ℕ) → ℕ
field k cells = value (cell k cells)

-- a byte that is not 0 means yes
abbrev pub flag : ℕ → List (List ℕ) → Bool
flag k cells = not (eqb (field k cells) 0)

-- index × 2^56 + root number; index 0 is no mount, whatever the low bits are (R5)
unfoldable pub mount_from_cells : ℕ → ℕ → ℕ → ℕ → Option Mount
mount_from_cells word uid gid mode =
    cond (eqb (word / 2 ^ 56) 0) None (Some (record { index = word / 2 ^ 56; root = word % 2 ^ 56; uid = uid; gid = gid; mode = mode }))

-- a length and the last seven bytes, and the bytes before those (R10)
unfoldable pub name_from : List ℕ → List ℕ → List ℕ
name_from [] first = []
name_from (l ∷ last) first = take (l - 7) first ++ take (min l 7) last

-- a row: node numbers are read modulo 2^56 (R5)
unfoldable pub node_from : List (List ℕ) → Node
node_from r = record {
  number = field number_column r % 2 ^ 56;
  parent = field parent_column r % 2 ^ 56;
  name = name_from (cell last_column r) (cell first_column r);
  mount = mount_from_cells (field mount_column r) (field uid_column r) (field gid_column r) (field mode_column r);
}

-- a slot (R56)
unfoldable pub slot_from : List (List ℕ) → Slot
slot_from r = record { held = flag held_column r; tag = field tag_column r }

-- the mapping in three fields from the k-th on (R27)
abbrev pub mapping_from : ℕ → List (List ℕ) → Mapping
mapping_from k h = mapping_by (field k h) (field (k + 1) h) (field (k + 2) h)

-- the options, with their own mapping (R27, R34)
abbrev pub options_from : List (List ℕ) → Options
options_from h = record { in_opts = field in_opts_field h; out_opts = field out_opts_field h; mapping = mapping_from own_mapping_field h; flags = field flags_field h }

-- the instance, by the header's cells, the slots and the nodes
abbrev pub instance_from : List (List ℕ) → List Slot → List Node → Instance
instance_from h slots nodes = record {
  fixed = record { capacity = field capacity_field h; known = field known_field h; mapping = mapping_from mapping_field h };
  removal = flag removal_field h;
  initialized = flag initialized_field h;
  options = options_from h;
  indexes = record { slots = slots; counter = field counter_field h };
  tree = record { next = field next_field h; root = mount_from_cells (field root_cell_field h) (field root_uid_field h) (field root_gid_field h) (field root_mode_field h); nodes = nodes };
}

-- ---- of the memory

-- the cells of the header
abbrev pub head_of : List ℕ → List (List ℕ)
head_of mem = row header mem 0

-- slot k
unfoldable pub slot_at : List ℕ → ℕ → Slot
slot_at mem k = slot_from (row slot_table mem k)

-- the node of row i, in a table of n rows
unfoldable pub node_at : ℕ → List ℕ → ℕ → Node
node_at n mem i = node_from (row (node_table n) mem i)

-- the 256 slots (R31)
unfoldable pub slots_of : List ℕ → List Slot
slots_of mem = tab (slot_at mem) 0 256

-- k nodes from row i on
unfoldable pub nodes_from : ℕ → List ℕ → ℕ → ℕ → List Node
nodes_from n mem i k = tab (node_at n mem) i k

-- all nodes, in table order (R44)
unfoldable pub nodes_of : List ℕ → List Node
nodes_of mem = nodes_from (field capacity_field (head_of mem)) mem 0 (field count_field (head_of mem))

-- the instance that the bytes stand for
unfoldable pub view : List ℕ → Instance
view mem = instance_from (head_of mem) (slots_of mem) (nodes_of mem)
