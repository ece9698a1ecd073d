-- The tables of an instance.
use Rattle.std.specs.Prelude.{ℕ, ◌+◌, ◌^◌, Bool, true, false, cond, List, [], ◌∷◌, ◌++◌, length, replicate, get_or, set, eqb, Option, None, Some}
use Prim.Native.String.{String}
use Rattle.rules.specs.Numbers.{root_number, first_number, slot_count}
use Rattle.rules.specs.Ids.{Mapping}
use Rattle.rules.specs.Tree.{Mount, Node, node_in, nodes_with_mount, without}

-- what creation fixes for good: N, the mask of known option bits, the mapping in force (R9, R26, R34)
pub record Fixed : Type 0 where
  pub capacity : ℕ
  pub known : ℕ
  pub mapping : Mapping

-- the options; a restore replaces them, their own mapping too (R27, R34)
pub record Options : Type 0 where
  pub in_opts : ℕ
  pub out_opts : ℕ
  pub mapping : Mapping
  pub flags : ℕ

-- the flags of the options: bit 0, bit 1, .. (R27, R122)
abbrev pub flag_names : List String
flag_names = "no_readdir" ∷ "seal_size" ∷ "no_open" ∷ "no_opendir" ∷ "no_writeback" ∷ "killpriv_v2" ∷ []

-- below this no other bit is set (R29, R122, R129 f)
abbrev pub flag_limit : ℕ
flag_limit = 2 ^ length flag_names

-- a slot: held or not, and its tag (R56)
pub record Slot : Type 0 where
  pub held : Bool
  pub tag : ℕ

-- the 256 index slots and the counter (R31)
pub record Indexes : Type 0 where
  pub slots : List Slot
  pub counter : ℕ

-- the next number, the root's mount, and the live nodes, root left out, in the order in which they were made (R44, R49)
pub record Tree : Type 0 where
  pub next : ℕ
  pub root : Option Mount
  pub nodes : List Node

-- the tables; `removal` is `remove_pseudo_root` (R32), `initialized` is as in R33 and R134
pub record Instance : Type 0 where
  pub fixed : Fixed
  pub removal : Bool
  pub initialized : Bool
  pub options : Options
  pub indexes : Indexes
  pub tree : Tree

-- ---- an instance with one part changed

-- the slots and the counter changed
abbrev pub with_indexes : Indexes → Instance → Instance
with_indexes x i = record { fixed = i.fixed; removal = i.removal; initialized = i.initialized; options = i.options; indexes = x; tree = i.tree }

-- the tree changed
abbrev pub with_tree : Tree → Instance → Instance
with_tree t i = record { fixed = i.fixed; removal = i.removal; initialized = i.initialized; options = i.options; indexes = i.indexes; tree = t }

-- `remove_pseudo_root` is set; nothing unsets it (R32)
abbrev pub removing : Instance → Instance
removing i = record { fixed = i.fixed; removal = true; initialized = i.initialized; options = i.options; indexes = i.indexes; tree = i.tree }

-- the counter
abbrev pub counter_of : Instance → ℕ
counter_of i = i.indexes.counter

-- the counter changed
abbrev pub with_counter : ℕ → Instance → Instance
with_counter c i = with_indexes (record { slots = i.indexes.slots; counter = c }) i

-- ---- slots

-- an empty slot, as new and as freed: its tag is 0 (R31, R56)
abbrev pub empty_slot : Slot
empty_slot = record { held = false; tag = 0 }

-- a slot held with a tag, 0 included (R76, R78)
abbrev pub held_by : ℕ → Slot
held_by t = record { held = true; tag = t }

-- the slot of an index
abbrev pub slot_of : Instance → ℕ → Slot
slot_of i k = get_or i.indexes.slots k empty_slot

-- the tag in a slot, or none, which is kept apart from tag 0 (R78, R97)
abbrev pub tag_in_slot : Slot → Option ℕ
tag_in_slot s = cond s.held (Some s.tag) None

-- the tag in the slot of an index, or none
abbrev pub tag_of : Instance → ℕ → Option ℕ
tag_of i k = tag_in_slot (slot_of i k)

-- the slot of an index is held (R81)
abbrev pub held_in : Instance → ℕ → Bool
held_in i k = (slot_of i k).held

-- the slots changed
abbrev pub with_slots : List Slot → Instance → Instance
with_slots ss i = with_indexes (record { slots = ss; counter = i.indexes.counter }) i

-- the slot of an index changed
abbrev pub with_slot : ℕ → Slot → Instance → Instance
with_slot k s i = with_slots (set i.indexes.slots k s) i

-- a new instance's: 256 empty slots, counter 1 (R31)
abbrev pub new_indexes : Indexes
new_indexes = record { slots = replicate slot_count empty_slot; counter = 1 }

-- ---- mounts

-- the mount on a node that was found
abbrev pub mount_of_found : Option Node → Option Mount
mount_of_found None = None
mount_of_found (Some n) = n.mount

-- the mount on a node; 1 is the root before any node is asked (R52, R53)
unfoldable pub mount_of_node : Tree → ℕ → Option Mount
mount_of_node t x = cond (eqb x root_number) t.root (mount_of_found (node_in t.nodes x))

-- the node has that mount, or none; 1 is the root before any node is asked (R52, R53, R76, R98)
unfoldable pub set_mount : Tree → ℕ → Option Mount → Tree
set_mount t x m =
    cond (eqb x root_number)
    (record { next = t.next; root = m; nodes = t.nodes })
    (record { next = t.next; root = t.root; nodes = nodes_with_mount m t.nodes x })

-- ---- nodes

-- a new instance's tree: the root alone, next number 2 (R12, R31)
abbrev pub new_tree : Tree
new_tree = record { next = first_number; root = None; nodes = [] }

-- the nodes that a mount walk made stand last, and the next number has risen by one for each (R48, R49)
abbrev pub grown : List Node → Tree → Tree
grown made t = record { next = t.next + length made; root = t.root; nodes = t.nodes ++ made }

-- a node is taken out; the next number stays (R49, R100)
abbrev pub cut : ℕ → Tree → Tree
cut x t = record { next = t.next; root = t.root; nodes = without t.nodes x }

-- the root and all nodes of the table, reachable or not; what was removed counts no more (R9, R25, R51)
abbrev pub live : Instance → ℕ
live i = 1 + length i.tree.nodes
