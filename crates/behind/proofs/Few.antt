-- Every mount of an instance in bytes has one of the 256 indexes. Assumes nothing.
use mathlib.Core.Path.{sym, ap, subst}
use mathlib.Core.Bool.{Bool, true, false, cond}
use mathlib.Core.List.{List, [], ◌∷◌, ◌++◌}
use Rattle.std.specs.Prelude.{Some}
use Prim.Native.Nat.{ℕ, zero, suc, ◌+◌, ◌^◌, ◌<◌}
use native.Mathlib.Omega.{arith}
use lib.Dec.{eqb}
use Rattle.le.specs.Mem.{get}
use Rattle.rules.specs.Bytes.{Bytes}
use Rattle.rules.specs.Numbers.{root_number}
use Rattle.rules.specs.Tree.{Node, node_in}
use Rattle.rules.specs.Instance.{Tree, mount_of_found, mount_of_node, grown}
use Rattle.rules.proofs.Fields.{get_fits}
use Rattle.tables.specs.Table.{row, tab}
use Rattle.tables.specs.Layout.{root_cell_at, capacity_of, count_of, mount_cell_at}
use Rattle.tables.proofs.Spells.{from_word}
use Rattle.tables.specs.View.{mount_from_cells, node_from, node_at, view}
use Rattle.tables.proofs.Find.{nodes_of_lem}
use Rattle.placing.specs.Place.{InSlots}
use Rattle.plan.proofs.Fresh.{Fresh}

abbrev AllIn : List Node → Type 0
AllIn [] = Unit {0}
AllIn (n ∷ ns) = InSlots n.mount × AllIn ns

pub record TreeIn (t : Tree) : Type 0 where
  pub root : InSlots t.root
  pub nodes : AllIn t.nodes

-- ---- in the bytes

from_in : (word uid gid mode : ℕ) → word < 2 ^ 64 → InSlots (mount_from_cells word uid gid mode)
from_in word uid gid mode h = from_word InSlots word uid gid mode tt (omega arith)

module _ (mem : List ℕ) (b : Bytes mem) where
  row_in : (n i : ℕ) → InSlots (node_at n mem i).mount
  unfolding node_at node_from row get
  row_in n i = from_in _ _ _ _ (get_fits 8 mem (mount_cell_at n i) b)

  rows_in : (n i k : ℕ) → AllIn (tab (node_at n mem) i k)
  unfolding tab
  rows_in n i zero = tt
  rows_in n i (suc k) = (row_in n i, rows_in n (i + 1) k)

  pub view_in : TreeIn (view mem).tree
  unfolding view row get
  view_in = record { root = from_in _ _ _ _ (get_fits 8 mem root_cell_at b); nodes = subst AllIn (sym (nodes_of_lem mem)) (rows_in (capacity_of mem) 0 (count_of mem)) }

-- ---- of new nodes, which have none

fresh_in : (x : ℕ) (ns : List Node) → Fresh x ns → AllIn ns
unfolding Fresh
fresh_in x [] f = tt
fresh_in x (n ∷ ns) f = (subst InSlots (sym (ap (λ (m : Node). m.mount) f.0)) tt, fresh_in (x + 1) ns f.3)

append_in : (xs ys : List Node) → AllIn xs → AllIn ys → AllIn (xs ++ ys)
append_in [] ys a b = b
append_in (x ∷ xs) ys a b = (a.0, append_in xs ys a.1 b)

pub grown_in : (x : ℕ) (ns : List Node) (t : Tree) → Fresh x ns → TreeIn t → TreeIn (grown ns t)
grown_in x ns t f i = record { root = i.root; nodes = append_in t.nodes ns i.nodes (fresh_in x ns f) }

-- ---- so has the mount of any number

node_in_lem : (ns : List Node) (x : ℕ) → AllIn ns → InSlots (mount_of_found (node_in ns x))
unfolding node_in
node_in_lem [] x a = tt
node_in_lem (n ∷ ns) x a = go (eqb n.number x) (node_in_lem ns x a.1)
  where
    go : (b : Bool) → InSlots (mount_of_found (node_in ns x)) → InSlots (mount_of_found (cond b (Some n) (node_in ns x)))
    go true k = a.0
    go false k = k

pub mount_in_lem : (t : Tree) (x : ℕ) → TreeIn t → InSlots (mount_of_node t x)
unfolding mount_of_node
mount_in_lem t x i = go (eqb x root_number)
  where
    go : (b : Bool) → InSlots (cond b t.root (mount_of_found (node_in t.nodes x)))
    go true = i.root
    go false = node_in_lem t.nodes x i.nodes
