-- What no call changes, and what only some calls change.
use Rattle.std.specs.Prelude.{ℕ, ◌≤◌, ◌<◌, true, false, List, [], ◌∷◌, ◌≡◌, Option, None, Some}
use Rattle.rules.specs.Numbers.{root_number}
use Rattle.rules.specs.Tree.{Mount, Node, node_in}
use Rattle.rules.specs.Instance.{Tree, Instance, mount_of_node}
use Rattle.rules.specs.Outcome.{Outcome}
use Rattle.rules.specs.Mount.{Request, ended}
use Rattle.rules.specs.Reached.{reached}
use Rattle.rules.specs.Saved.{state_of}
use Rattle.rules.specs.Calls.{Query, asked, Call, mount, restore_mount, umount, set_remove_pseudo_root, restore_from_bytes, rule}
use Rattle.rules.specs.claims.Driven.{Driven}
use Rattle.rules.specs.claims.Trace.{NoStateRestore, WithoutStateRestore, after_all}

-- the mount of a node, if it has one, put before others
abbrev pub mounted : ℕ → Option Mount → List (ℕ × Mount) → List (ℕ × Mount)
mounted x None ms = ms
mounted x (Some m) ms = (x, m) ∷ ms

-- the nodes with a mount, and their mounts
unfoldable pub mounts_in : List Node → List (ℕ × Mount)
mounts_in [] = []
mounts_in (n ∷ ns) = mounted n.number n.mount (mounts_in ns)

-- of the root and of the nodes
abbrev pub mounts_of : Tree → List (ℕ × Mount)
mounts_of t = mounted root_number t.root (mounts_in t.nodes)

-- the call is no mount, restored mount or unmount
pub record NoMounting (c : Call) : Type 0 where
  pub no_mount : (r : Request) → c ≡ mount r → ⊥
  pub no_restored : (k : ℕ) (r : Request) → c ≡ restore_mount k r → ⊥
  pub no_unmount : (path : List ℕ) → c ≡ umount path → ⊥

-- what the outcome o of the call c on the instance i keeps (R32, R33, R34, R49, R118, R134)
pub record Stays (i : Instance) (c : Call) (o : Outcome) : Type 0 where
  -- N, the mask and the mapping in force stay
  pub fixed : o.after.fixed ≡ i.fixed
  -- the remove flag never goes back
  pub removal : i.removal ≡ true → o.after.removal ≡ true
  -- and changes by its own call alone
  pub removal_kept : (c ≡ set_remove_pseudo_root → ⊥) → o.after.removal ≡ i.removal
  -- options and `initialized` change by a done state restore alone
  pub options : NoStateRestore c o → o.after.options ≡ i.options
  pub initialized : NoStateRestore c o → o.after.initialized ≡ i.initialized
  -- mounts and slots change by those three calls alone
  pub mounts : NoMounting c → mounts_of o.after.tree ≡ mounts_of i.tree
  pub slots : NoMounting c → o.after.indexes.slots ≡ i.indexes.slots
  -- the next number falls by a state restore alone
  pub next : ((b : List ℕ) → c ≡ restore_from_bytes b → ⊥) → i.tree.next ≤ o.after.tree.next

-- of every call on every instance (R32, R33, R34, R49, R118, R134)
abbrev pub EveryStays : Type 0
EveryStays = (i : Instance) (c : Call) → Stays i c (rule i c)

-- what the outcome o of a query on the instance i leaves: all of it; no index is visited or handed out (R86, R89)
pub record Unmoved (i : Instance) (o : Outcome) : Type 0 where
  pub after : o.after ≡ i
  pub visits : o.visits ≡ []
  pub found : o.found ≡ None

-- of every query on every instance
abbrev pub EveryAsked : Type 0
EveryAsked = (i : Instance) (q : Query) → Unmoved i (asked i q)

-- the call of the remove flag sets it, on every instance (R32)
abbrev pub RemovalSet : Type 0
RemovalSet = (i : Instance) → (rule i set_remove_pseudo_root).after.removal ≡ true

-- what an instance has taken over from the bytes b: their options; and it is initialized exactly if these have a bit of in_opts (R134)
pub record TakenOver (b : List ℕ) (j : Instance) : Type 0 where
  pub options : j.options ≡ (state_of b).options
  pub no_bits : j.initialized ≡ false → j.options.in_opts ≡ 0
  pub bits : j.initialized ≡ true → j.options.in_opts ≡ 0 → ⊥

-- so after every done state restore (R134)
abbrev pub EveryTakenOver : Type 0
EveryTakenOver = (i : Instance) (b : List ℕ) → (rule i (restore_from_bytes b)).code ≡ 0 → TakenOver b (rule i (restore_from_bytes b)).after

-- ---- the mounts of other nodes

-- the mount on the node y after a call: as it was; or the call is done, and y is the node where the path of a mount or a restored mount ends, or which an unmount
-- reaches (R15, R76, R93, R98, R127)
pub data MountAfter (i : Instance) (c : Call) (o : Outcome) (y : ℕ) : Type 0 where
  same_mount : mount_of_node o.after.tree y ≡ mount_of_node i.tree y → MountAfter i c o y
  by_mount : (r : Request) → c ≡ mount r → o.code ≡ 0 → y ≡ ended i r.path → MountAfter i c o y
  by_restored : (k : ℕ) (r : Request) → c ≡ restore_mount k r → o.code ≡ 0 → y ≡ ended i r.path → MountAfter i c o y
  by_unmount : (path : List ℕ) → c ≡ umount path → o.code ≡ 0 → reached i path ≡ Some y → MountAfter i c o y

-- of every call on every instance
abbrev pub EveryMountOn : Type 0
EveryMountOn = (i : Instance) (c : Call) (y : ℕ) → MountAfter i c (rule i c) y

-- ---- no live number is given twice

-- none of the nodes has that number
unfoldable pub Absent : ℕ → List Node → Type 0
Absent x [] = Unit {0}
Absent x (n ∷ ns) = (n.number ≡ x → ⊥) × Absent x ns

-- no two nodes have one number, and none has the root's (R12, R49)
unfoldable pub Distinct : List Node → Type 0
Distinct [] = Unit {0}
Distinct (n ∷ ns) = (n.number ≡ root_number → ⊥) × Absent n.number ns × Distinct ns

-- of every driven instance (R49)
abbrev pub NumbersOnce : Type 0
NumbersOnce = (i : Instance) → Driven i → Distinct i.tree.nodes

-- a number below the next one that no node has is given to no node again, on any tables, over any calls without a done state restore (R49)
abbrev pub NeverAgain : Type 0
NeverAgain = (i : Instance) (x : ℕ) → x < i.tree.next → node_in i.tree.nodes x ≡ None → (cs : List Call) → WithoutStateRestore i cs
    → node_in (after_all i cs).tree.nodes x ≡ None
