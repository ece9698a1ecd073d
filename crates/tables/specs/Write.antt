-- What is written into the bytes: exact functions of the memory.
use Rattle.std.specs.Prelude.{ℕ, ◌+◌, ◌-◌, ◌*◌, ◌^◌, ◌≤◌, ◌<◌, Bool, true, false, List, [], ◌∷◌, ◌++◌, length, take, drop, replicate, Option, None, Some}
use Rattle.le.specs.Mem.{bytes_of, put}
use Rattle.rules.specs.Ids.{Mapping}
use Rattle.rules.specs.Tree.{Mount}
use Rattle.tables.specs.Table.{put_row, close_up}
use Rattle.tables.specs.Layout.{header, slot_table, node_table, capacity_of, count_of, next_of, count_field, counter_field, next_field, removal_field, root_cell_field}

-- ---- the header

-- the cells from place k on
abbrev pub from_place : ℕ → List (List ℕ) → List (List ℕ)
from_place k xs = replicate k [] ++ xs

-- written into the header
unfoldable pub put_header : ℕ → List (List ℕ) → List ℕ → List ℕ
put_header k xs mem = put_row header (from_place k xs) mem 0

-- the nodes besides the root
unfoldable pub set_count : ℕ → List ℕ → List ℕ
set_count c mem = put_header count_field (bytes_of 8 c ∷ []) mem

-- the next number
unfoldable pub set_next : ℕ → List ℕ → List ℕ
set_next x mem = put_header next_field (bytes_of 8 x ∷ []) mem

-- the counter
unfoldable pub set_counter : ℕ → List ℕ → List ℕ
set_counter c mem = put_header counter_field (bytes_of 1 c ∷ []) mem

-- the remove flag is set (R32)
unfoldable pub set_removal : List ℕ → List ℕ
set_removal mem = put_header removal_field (bytes_of 1 1 ∷ []) mem

-- a mapping at a place (R27)
abbrev pub put_mapping : Mapping → ℕ → List ℕ → List ℕ
put_mapping m at mem = put 4 (put 4 (put 4 mem at m.internal) (at + 4) m.external) (at + 8) m.range

-- ---- a slot

-- yes is 1, no is 0
abbrev pub yes_byte : Bool → ℕ
yes_byte true = 1
yes_byte false = 0

-- slot k is held, or not; its tag stays (R56)
unfoldable pub set_held : ℕ → Bool → List ℕ → List ℕ
set_held k held mem = put_row slot_table (bytes_of 1 (yes_byte held) ∷ []) mem k

-- slot k has the tag; whether it is held stays (R56)
unfoldable pub set_tag : ℕ → ℕ → List ℕ → List ℕ
set_tag k tag mem = put_row slot_table ([] ∷ bytes_of 4 tag ∷ []) mem k

-- both: slot k, held or not, with its tag (R56)
unfoldable pub set_slot : ℕ → Bool → ℕ → List ℕ → List ℕ
set_slot k held tag mem = set_tag k tag (set_held k held mem)

-- ---- a mount

-- its cell, uid, gid and mode; of none, the cell alone
abbrev pub mount_cells : Option Mount → List (List ℕ)
mount_cells None = bytes_of 8 0 ∷ []
mount_cells (Some m) = bytes_of 8 (m.index * 2 ^ 56 + m.root) ∷ bytes_of 4 m.uid ∷ bytes_of 4 m.gid ∷ bytes_of 4 m.mode ∷ []

-- in a row the name's last bytes stand between
abbrev pub row_mount_cells : Option Mount → List (List ℕ)
row_mount_cells None = [] ∷ [] ∷ bytes_of 8 0 ∷ []
row_mount_cells (Some m) =
    [] ∷ [] ∷ bytes_of 8 (m.index * 2 ^ 56 + m.root) ∷ [] ∷ bytes_of 4 m.uid ∷ bytes_of 4 m.gid ∷ bytes_of 4 m.mode ∷ []

-- each number of a mount fits its cell, and its index is not 0 (R3, R5, R11)
pub record MountFits (m : Mount) : Type 0 where
  pub index : 1 ≤ m.index
  pub few : m.index ≤ 255
  pub root : m.root < 2 ^ 56
  pub uid : m.uid < 2 ^ 32
  pub gid : m.gid < 2 ^ 32
  pub mode : m.mode < 2 ^ 32

-- where there is a mount
abbrev pub MayFit : Option Mount → Type 0
MayFit None = Unit {0}
MayFit (Some m) = MountFits m

-- the mount of the root (R76, R98)
unfoldable pub set_root_mount : Option Mount → List ℕ → List ℕ
set_root_mount m mem = put_header root_cell_field (mount_cells m) mem

-- the mount of row i (R76, R98)
unfoldable pub set_row_mount : Option Mount → ℕ → List ℕ → List ℕ
set_row_mount m i mem = put_row (node_table (capacity_of mem)) (row_mount_cells m) mem i

-- ---- rows

-- the cells of a name: its length and last bytes, and behind the mount's ids the bytes before them (R10)
abbrev pub name_cells : List ℕ → List (List ℕ)
name_cells p = (bytes_of 1 (length p) ++ drop (length p - 7) p) ∷ [] ∷ [] ∷ [] ∷ take (length p - 7) p ∷ []

-- the cells of a new node
unfoldable pub node_cells : ℕ → ℕ → List ℕ → List (List ℕ)
node_cells x parent p = bytes_of 8 x ∷ bytes_of 8 parent ∷ bytes_of 8 0 ∷ name_cells p

-- a new node at the end takes the next number (R48, R49)
unfoldable pub append_node : ℕ → List ℕ → List ℕ → List ℕ
append_node parent p mem =
    set_next (next_of mem + 1) (set_count (count_of mem + 1) (put_row (node_table (capacity_of mem)) (node_cells (next_of mem) parent p) mem (count_of mem)))

-- row i goes, and those behind it close up (R25, R44)
unfoldable pub remove_row : ℕ → List ℕ → List ℕ
remove_row i mem = set_count (count_of mem - 1) (close_up (node_table (capacity_of mem)) mem i (count_of mem - 1 - i))
