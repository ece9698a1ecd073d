-- The instances that bytes can stand for: within the layout rule, and each number within its cell.
use Rattle.std.specs.Prelude.{ℕ, ◌^◌, ◌≤◌, ◌<◌, ◌≡◌, true, false, List, [], ◌∷◌, length}
use Rattle.rules.specs.Bytes.{Bytes}
use Rattle.rules.specs.Ids.{bad_mapping}
use Rattle.rules.specs.Tree.{Node}
use Rattle.rules.specs.Instance.{Slot, Instance}
use Rattle.rules.specs.Create.{unknown}
use Rattle.rules.specs.claims.RoundTrip.{OptionsFit}
use Rattle.rules.specs.Numbers.{max_name, first_number, max_nodes, top_number, storage_for}
use Rattle.tables.specs.View.{view}
use Rattle.tables.specs.Laid.{laid}
use Rattle.tables.specs.Write.{MayFit}

-- ---- each number within its cell

-- of the tags (R3)
abbrev pub SlotsFit : List Slot → Type 0
SlotsFit [] = Unit {0}
SlotsFit (s ∷ ss) = (s.tag < 2 ^ 32) × SlotsFit ss

-- of a node (R5, R10)
abbrev pub NodeFits : Node → Type 0
NodeFits n = (n.number < top_number) × (n.parent < top_number) × (length n.name ≤ max_name) × Bytes n.name × MayFit n.mount

-- of every node
abbrev pub NodesFit : List Node → Type 0
NodesFit [] = Unit {0}
NodesFit (n ∷ ns) = NodeFits n × NodesFit ns

-- ---- the instances, and their bytes

-- an instance that bytes can stand for
pub record Limits (i : Instance) : Type 0 where
  -- what the layout rule asks (R9, R20, R22)
  pub some_node : 1 ≤ i.fixed.capacity
  pub few_nodes : i.fixed.capacity ≤ max_nodes
  pub live : length i.tree.nodes < i.fixed.capacity
  pub low : first_number ≤ i.tree.next
  pub top : i.tree.next ≤ top_number
  pub within : unknown i.fixed.known i.options ≡ false
  pub mapping : bad_mapping i.fixed.mapping ≡ false
  -- the flags (R22), 256 slots, and the widths of the cells
  pub mask : i.fixed.known < 2 ^ 64
  pub options : OptionsFit i.options
  pub counter : i.indexes.counter < 256
  pub slots : length i.indexes.slots ≡ 256
  pub tags : SlotsFit i.indexes.slots
  pub root : MayFit i.tree.root
  pub nodes : NodesFit i.tree.nodes

-- these bytes, no more than the instance needs, keep the layout rule and stand for it
pub record Stored (i : Instance) (mem : List ℕ) : Type 0 where
  pub long : length mem ≡ storage_for i.fixed.capacity
  pub bytes : Bytes mem
  pub keeps : laid mem ≡ true
  pub stands : view mem ≡ i

-- the claim: there are such bytes for every instance within the limits
abbrev pub Onto : Type 0
Onto = (i : Instance) → Limits i → (mem : List ℕ) × Stored i mem
