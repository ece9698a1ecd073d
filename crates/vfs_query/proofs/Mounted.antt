-- The root number of a mount in the bytes is below 2^56. Assumes nothing.
use mathlib.Core.Path.{◌≡◌, refl, sym, subst}
use mathlib.Core.Bool.{Bool, true, false}
use mathlib.Core.List.{List}
use Rattle.std.specs.Prelude.{Option, None, Some}
use Prim.Native.Nat.{ℕ, ◌^◌, ◌<◌}
use native.Mathlib.Omega.{arith}
use lib.Dec.{eqb}
use borrow.Author.Tests.{eqb-true, eqb-false}
use Rattle.rules.specs.Numbers.{root_number}
use Rattle.rules.specs.Tree.{Mount}
use Rattle.rules.specs.Instance.{mount_of_node}
use Rattle.tables.specs.Table.{row}
use Rattle.tables.specs.Layout.{node_table, capacity_of, gid_column, mode_column, mount_column, root_cell_field, root_gid_field, root_mode_field, root_uid_field, uid_column}
use Rattle.tables.specs.View.{field, mount_from_cells, node_from, head_of, node_at, nodes_of, view}
use Rattle.tables.specs.Answer.{place_in}
use Rattle.tables.proofs.Spells.{from_word}
use Rattle.tables.proofs.ByPlace.{mount_root, mount_found, mount_missing}

abbrev LowRoot : Option Mount → Type 0
LowRoot None = Unit {0}
LowRoot (Some m) = m.root < 2 ^ 56

from_low : (word uid gid mode : ℕ) → LowRoot (mount_from_cells word uid gid mode)
from_low word uid gid mode = from_word LowRoot word uid gid mode tt (omega arith)

module _ (mem : List ℕ) where
  root_low : LowRoot (view mem).tree.root
  unfolding view
  root_low =
      let h = head_of mem in
      from_low (field root_cell_field h) (field root_uid_field h) (field root_gid_field h) (field root_mode_field h)

  row_low : (i : ℕ) → LowRoot (node_at (capacity_of mem) mem i).mount
  unfolding node_at node_from
  row_low i =
      let r = row (node_table (capacity_of mem)) mem i in
      from_low (field mount_column r) (field uid_column r) (field gid_column r) (field mode_column r)

  node_low : (x : ℕ) → LowRoot (mount_of_node (view mem).tree x)
  node_low x = go (eqb x root_number) refl (place_in (nodes_of mem) x) refl
    where
      go : (b : Bool) → eqb x root_number ≡ b → (o : Option ℕ) → place_in (nodes_of mem) x ≡ o → LowRoot (mount_of_node (view mem).tree x)
      go true t o q = subst LowRoot (sym (mount_root mem x (eqb-true x root_number t))) root_low
      go false t None q = subst LowRoot (sym (mount_missing mem x (eqb-false x root_number t) q)) tt
      go false t (Some i) q = subst LowRoot (sym (mount_found mem x (eqb-false x root_number t) i q)) (row_low i)

  pub mount_low : (x : ℕ) (m : Mount) → Some m ≡ mount_of_node (view mem).tree x → m.root < 2 ^ 56
  mount_low x m e = subst LowRoot (sym e) (node_low x)
