-- Driven instances: what a done creation gives, after any calls, state restores included; and what holds of each.
use Rattle.std.specs.Prelude.{ℕ, ◌+◌, ◌^◌, ◌≤◌, ◌<◌, true, false, ◌⊎◌, List, [], ◌∷◌, ◌≡◌, length, get_or, Option, None, Some}
use Rattle.rules.specs.Numbers.{root_number, top_number, max_nodes, DONE}
use Rattle.rules.specs.Bytes.{Bytes}
use Rattle.rules.specs.Ids.{bad_mapping}
use Rattle.rules.specs.Tree.{Mount, Node, node_in, is_known}
use Rattle.rules.specs.Instance.{Fixed, Options, Indexes, Tree, Instance, empty_slot}
use Rattle.rules.specs.Create.{Creation, unknown, new_instance, create_rule}
use Rattle.rules.specs.Reached.{reached}
use Rattle.rules.specs.Saved.{SavedNode, used, good_name}
use Rattle.rules.specs.StateRestore.{saved_nodes}
use Rattle.rules.specs.claims.RoundTrip.{OptionsFit}
use Rattle.rules.specs.Calls.{Call, restore_from_bytes, rule}

-- the bytes of a state restore are bytes
abbrev pub Typed : Call → Type 0
Typed c = (b : List ℕ) → c ≡ restore_from_bytes b → Bytes b

-- a done creation, whose mask is a number of 64 bits; then any calls
pub data Driven : Instance → Type 0 where
  creation : (bytes : ℕ) (q : Creation) → q.known < 2 ^ 64 → create_rule bytes q ≡ DONE → Driven (new_instance q)
  call : (i j : Instance) (c : Call) → Typed c → Driven i → (rule i c).after ≡ j → Driven j

-- ---- the nodes, their mounts left aside

-- numbers rise, from low on, below high (R49, R126)
unfoldable pub Rises : ℕ → List SavedNode → ℕ → Type 0
Rises low [] high = low ≤ high
Rises low (e ∷ es) high = (low ≤ e.number) × Rises (e.number + 1) es high

-- each parent's number is from 1 up and below the node's (R48)
unfoldable pub Below : List SavedNode → Type 0
Below [] = Unit {0}
Below (e ∷ es) = (1 ≤ e.parent) × (e.parent < e.number) × Below es

-- each name has 1 to 255 bytes, is UTF-8, has no slash, and is not `.` or `..` (R10, R37)
unfoldable pub Named : List SavedNode → Type 0
Named [] = Unit {0}
Named (e ∷ es) = (good_name e.name ≡ true) × Named es

-- no name stands twice under one parent (R45, R48)
unfoldable pub Unique : List SavedNode → Type 0
Unique [] = Unit {0}
Unique (e ∷ es) = (used e.parent e.name es ≡ false) × Unique es

-- what holds of the nodes
pub record Shape (es : List SavedNode) (next : ℕ) : Type 0 where
  pub rises : Rises 2 es next
  pub below : Below es
  pub named : Named es
  pub unique : Unique es

-- ---- mounts

-- the mount is there, and has that index
abbrev pub IsAt : ℕ → Option Mount → Type 0
IsAt k None = ⊥
IsAt k (Some m) = m.index ≡ k

-- a mount of that index stands on one of the nodes
unfoldable pub MountIn : ℕ → List Node → Type 0
MountIn k [] = ⊥
MountIn k (n ∷ ns) = IsAt k n.mount ⊎ MountIn k ns

-- a mount of that index stands on the root or on a node
abbrev pub Mounted : ℕ → Tree → Type 0
Mounted k t = IsAt k t.root ⊎ MountIn k t.nodes

-- ---- what holds

-- of the tree, its mounts left aside: the nodes, the next number, and that N is not exceeded (R9, R10, R48, R49, R67)
pub record TreeFacts (capacity : ℕ) (t : Tree) : Type 0 where
  pub shape : Shape (saved_nodes t.nodes) t.next
  pub top : t.next ≤ top_number
  pub room : 1 + length t.nodes ≤ capacity

-- of the mounts: slots and counter (R31), and a mount for each held slot (R76, R98)
pub record MountFacts (x : Indexes) (t : Tree) : Type 0 where
  pub slots : length x.slots ≡ 256
  pub counter : x.counter < 256
  pub held : (k : ℕ) → (get_or x.slots k empty_slot).held ≡ true → Mounted k t

-- of the rest: N (R9), mask and options (R28, R29), mapping in force (R30)
pub record SettingFacts (f : Fixed) (o : Options) : Type 0 where
  pub capacity : f.capacity ≤ max_nodes
  pub mask : f.known < 2 ^ 64
  pub mapping : bad_mapping f.mapping ≡ false
  pub within : unknown f.known o ≡ false
  pub options : OptionsFit o

-- all three
pub record Facts (i : Instance) : Type 0 where
  pub tree : TreeFacts i.fixed.capacity i.tree
  pub mounts : MountFacts i.indexes i.tree
  pub settings : SettingFacts i.fixed i.options

-- of every driven instance
abbrev pub EveryDriven : Type 0
EveryDriven = (i : Instance) → Driven i → Facts i

-- ---- what a path reaches

-- a number from which live nodes lead up to the root
pub data Rooted (ns : List Node) : ℕ → Type 0 where
  top : Rooted ns root_number
  under : (x : ℕ) (n : Node) → node_in ns x ≡ Some n → Rooted ns n.parent → Rooted ns x

-- a path leads to such a number alone; so no path reaches what stands under a removed node (R101)
abbrev pub EveryReached : Type 0
EveryReached = (i : Instance) → Driven i → (path : List ℕ) (x : ℕ) → reached i path ≡ Some x → Rooted i.tree.nodes x

-- ---- save and restore

-- each node's parent is the root or live (R135)
unfoldable pub Present : List Node → List Node → Type 0
Present all [] = Unit {0}
Present all (n ∷ ns) = (is_known all n.parent ≡ true) × Present all ns
