-- Paths and mounts: where a path leads, said without the walk; that what is mounted at a path is found there; and what an unmount takes out.
use Rattle.std.specs.Prelude.{ℕ, ◌<◌, true, false, List, [], ◌∷◌, ◌↔◌, ◌≡◌, length, None, Some}
use Rattle.rules.specs.Numbers.{root_number, index_of, number_of, NOENT}
use Rattle.rules.specs.Path.{Part, Normal, ParentDir, components}
use Rattle.rules.specs.Tree.{Mount, Node, node_in, is_known}
use Rattle.rules.specs.Instance.{Tree, Instance, mount_of_node, tag_of}
use Rattle.rules.specs.Outcome.{walked, rootfs, to_backend, refused, says}
use Rattle.rules.specs.Mount.{Request, ended}
use Rattle.rules.specs.Reached.{reached}
use Rattle.rules.specs.StateRestore.{saved_nodes}
use Rattle.rules.specs.claims.Proper.{At}
use Rattle.rules.specs.Calls.{mount, restore_mount, umount, ask, path_walk, get_rootfs, route, rule}
use Rattle.rules.specs.claims.Driven.{Driven}

-- ---- where a path leads

-- one component: `..` goes to the parent, of the root to the root; a name goes to the node that has it under the present one (R39, R45, R46)
pub data Goes (ns : List Node) : ℕ → Part → ℕ → Type 0 where
  at_root_lem : (a : ℕ) → Goes ns root_number (ParentDir a) root_number
  up : (a k : ℕ) (n : Node) → At ns k n → Goes ns n.number (ParentDir a) n.parent
  down : (a k : ℕ) (n : Node) → At ns k n → Goes ns n.parent (Normal a n.name) n.number

-- all of them, in order (R38, R55)
pub data Leads (ns : List Node) : ℕ → List Part → ℕ → Type 0 where
  end : (x : ℕ) → Leads ns x [] x
  on : (x y z : ℕ) (p : Part) (ps : List Part) → Goes ns x p y → Leads ns y ps z → Leads ns x (p ∷ ps) z

-- a walk ends where the components lead (R39, R46, R47)
abbrev pub EveryLead : Type 0
EveryLead = (i : Instance) → Driven i → (path : List ℕ) (x : ℕ) → (reached i path ≡ Some x) ↔ Leads i.tree.nodes root_number (components 0 path) x

-- ---- what is mounted is found

-- the instance j came of i by a mount of the request r at the index k
pub record Found (i j : Instance) (r : Request) (k : ℕ) : Type 0 where
  -- its path leads to the node where the mount walk ended: the one that it led to before, if it did (R46, R48)
  pub node : rule j (ask (path_walk r.path)) ≡ says (walked (Some (ended i r.path))) j
  pub there : (x : ℕ) → reached i r.path ≡ Some x → ended i r.path ≡ x
  -- the mount on it is as the request brought it (R3, R76)
  pub mount : mount_of_node j.tree (ended i r.path) ≡ Some (record { index = k; root = r.root; uid = r.uid; gid = r.gid; mode = r.mode })
  -- a root query of the path tells tag and index (R103)
  pub query : rule j (ask (get_rootfs r.path)) ≡ says (rootfs (Some (r.tag, k))) j
  -- a number of the index is routed to the tag; and so is the full number 1, if the mount is on the root (R105, R106)
  pub routed : (x : ℕ) → index_of x ≡ k → rule j (ask (route x)) ≡ says (to_backend r.tag k (number_of x)) j
  pub diverted : ended i r.path ≡ root_number → rule j (ask (route root_number)) ≡ says (to_backend r.tag k r.root) j

-- of every done mount, and of every done restored mount at an index that is a byte (R76, R93)
abbrev pub EveryFound : Type 0
EveryFound = (i : Instance) → Driven i → (r : Request) (k : ℕ)
    → ((rule i (mount r)).code ≡ 0 → (rule i (mount r)).found ≡ Some k → Found i (rule i (mount r)).after r k)
    × (k < 256 → (rule i (restore_mount k r)).code ≡ 0 → Found i (rule i (restore_mount k r)).after r k)

-- on any tables: right after a done restored mount at the index of a slot, a number of that index leads into its backend (R93, R106)
abbrev pub EveryNewRestoredMount : Type 0
EveryNewRestoredMount = (i : Instance) (k : ℕ) (r : Request) → k < length i.indexes.slots → (rule i (restore_mount k r)).code ≡ 0 → (x : ℕ) → index_of x ≡ k
    → rule (rule i (restore_mount k r)).after (ask (route x)) ≡ says (to_backend r.tag (index_of x) (number_of x)) (rule i (restore_mount k r)).after

-- the full number 1, where a mount is on the root: into its backend, or nowhere if its slot is empty (R105)
pub record Diverted (i : Instance) (m : Mount) : Type 0 where
  pub held : (t : ℕ) → tag_of i m.index ≡ Some t → rule i (ask (route 1)) ≡ says (to_backend t m.index m.root) i
  pub empty : tag_of i m.index ≡ None → rule i (ask (route 1)) ≡ refused NOENT i

-- on any tables (R105)
abbrev pub EveryDiverted : Type 0
EveryDiverted = (i : Instance) (m : Mount) → i.tree.root ≡ Some m → Diverted i m

-- ---- what an unmount takes out

-- the tree t is left by an unmount of the node x of i (R98, R100, R101)
pub record Unmounted (i : Instance) (t : Tree) (x : ℕ) : Type 0 where
  -- the node is gone exactly if the flag is set and it is not the root
  pub out : (is_known t.nodes x ≡ false) ↔ ((i.removal ≡ true) × (x ≡ root_number → ⊥))
  -- no mount is on it; every other node is as it was; and without the flag so are all, but for that mount
  pub bare : mount_of_node t x ≡ None
  pub others : (y : ℕ) → (x ≡ y → ⊥) → node_in t.nodes y ≡ node_in i.tree.nodes y
  pub all : i.removal ≡ false → saved_nodes t.nodes ≡ saved_nodes i.tree.nodes

-- of every done unmount: its path leads to a node, and it is so of that one (R96, R98, R100, R101)
abbrev pub EveryUnmounted : Type 0
EveryUnmounted = (i : Instance) → Driven i → (path : List ℕ) → (rule i (umount path)).code ≡ 0
    → (x : ℕ) × (reached i path ≡ Some x) × Unmounted i (rule i (umount path)).after.tree x
