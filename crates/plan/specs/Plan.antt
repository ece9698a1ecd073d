-- The nodes that planned nodes stand for, and what a plan must say.
use Rattle.std.specs.Prelude.{ℕ, ◌+◌, ◌-◌, ◌^◌, ◌≤◌, ◌<◌, min, cond, List, [], ◌≡◌, length, get_or, Result, Ok, Err}
use Rattle.std.specs.Int.{w16, w64, from_le_bytes}
use Rattle.rules.specs.Numbers.{max_nodes}
use Rattle.rules.specs.Tree.{Node, Made, bare}
use Rattle.rules.specs.Instance.{Instance}
use Rattle.rules.specs.Mount.{planned, no_room}
use Rattle.rules.specs.declared.codes.VfsError.{VfsError}
use Rattle.rules.specs.declared.codes.VfsError.TheVariants.{NoRoom}
use Rattle.path.specs.Steps.{part}
use Rattle.tables.specs.Table.{tab}
use Rattle.tables.specs.Layout.{capacity_of, count_of, next_of}
use Rattle.tables.specs.View.{view}
use Rattle.plan.specs.declared.Planned.{Planned}
use Rattle.plan.specs.declared.PlannedNode.{PlannedNode}

-- the parent's number of a planned node, and where its name starts in the path, of their bytes
unfoldable pub planned_parent : PlannedNode → ℕ
planned_parent n = from_le_bytes w64 n.parent

unfoldable pub planned_start : PlannedNode → ℕ
planned_start n = from_le_bytes w16 n.start

-- no node: what is read of it is 0
abbrev pub no_node : PlannedNode
no_node = record { parent = []; start = []; len = 0 }

-- the j-th of the planned nodes; past the last one that of no node
abbrev pub note_at : List PlannedNode → ℕ → PlannedNode
note_at t j = get_or t j no_node

-- planned node j: its number is the next number and j more (R49)
unfoldable pub planned_at : List ℕ → ℕ → List PlannedNode → ℕ → Node
planned_at path next t j = bare (next + j) (planned_parent (note_at t j)) (part path (planned_start (note_at t j)) (note_at t j).len)

-- k planned nodes from the j-th on
unfoldable pub planned_from : List ℕ → ℕ → List PlannedNode → ℕ → ℕ → List Node
planned_from path next t j k = tab (planned_at path next t) j k

-- the names of the first k stand within the path
abbrev pub Within : List ℕ → List PlannedNode → ℕ → Type 0
Within path t k = (j : ℕ) → j < k → planned_start (note_at t j) + (note_at t j).len ≤ length path

-- how many nodes can still be made: by N, and by the numbers up to 2^56 (R67)
abbrev pub room_of : List ℕ → ℕ
room_of mem = min (capacity_of mem - (1 + count_of mem)) (2 ^ 56 - next_of mem)

-- ---- what a plan says

-- what the answer and the planned nodes tell: the nodes to make and the node where the path ends, or the refusal
unfoldable pub plan_told : List ℕ → ℕ → List PlannedNode → Result Planned VfsError → Result Made VfsError
plan_told path next t (Ok p) = Ok (record { nodes = planned_from path next t 0 p.count; here = p.node })
plan_told path next t (Err e) = Err e

-- how many nodes the answer tells
abbrev pub size_of : Result Planned VfsError → ℕ
size_of (Ok p) = p.count
size_of (Err e) = 0

-- what the rules make where there is room, else NOROOM (R48, R67)
unfoldable pub fitting : Instance → List ℕ → Result Made VfsError
fitting i path = cond (no_room i path) (Err NoRoom) (Ok (planned i.tree path))

-- the plan of a path: by the rules, with every planned name within the path, and no more nodes than there is room for; the array keeps its length (R48, R50, R67)
pub record Plans (mem path : List ℕ) (t : List PlannedNode) (r : Result Planned VfsError) : Type 0 where
  pub answer : plan_told path (next_of mem) t r ≡ fitting (view mem) path
  pub named : Within path t (size_of r)
  pub few : size_of r ≤ room_of mem
  pub sized : length t ≡ max_nodes
