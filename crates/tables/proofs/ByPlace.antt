-- What the rules say of a number, and what is written for it, by the place of its row. Assumes nothing.
use mathlib.Core.Path.{◌≡◌, refl, ap}
use mathlib.Core.Bool.{Bool, true, false, cond, not, ◌||◌}
use mathlib.Core.List.{List, [], ◌∷◌}
use Rattle.std.specs.Prelude.{Option, None, Some}
use Rattle.std.specs.Option.{is_some}
use Prim.Native.Nat.{ℕ, zero, suc, ◌<◌}
use native.Mathlib.Omega.{arith}
use borrow.Author.Tests.{eq-eqb, ne_eqb, eqb-false}
use lib.ListN.{length, get_or}
use lib.Dec.{eqb}
use Rattle.le.specs.Mem.{put}
use Rattle.rules.specs.Numbers.{root_number}
use Rattle.rules.specs.Tree.{Mount, Node, is_none, node_in, is_known, parent_in}
use Rattle.rules.specs.Instance.{mount_of_node}
use Rattle.tables.specs.Table.{put_row}
use Rattle.tables.specs.Layout.{root_cell_at, capacity_of, count_of, mount_cell_at}
use Rattle.tables.specs.View.{node_at, nodes_of, view}
use Rattle.tables.specs.Write.{put_header, set_root_mount, set_row_mount}
use Rattle.tables.specs.Answer.{place_in, node_mount_mem, row_for}
use Rattle.tables.proofs.RowOf.{nobody, place_nowhere, nodes_count, nodes_at, node_found}

-- a number that a row has is a node's
some_node : (ns : List Node) (x j : ℕ) → j < length ns → (get_or ns j nobody).number ≡ x → is_none (node_in ns x) ≡ false
unfolding node_in
some_node [] x j h e = absurd (omega arith)
some_node (n ∷ ns) x j h e = go (eqb n.number x) refl j h e (some_node ns x)
  where
    go : (b : Bool) → eqb n.number x ≡ b → (j : ℕ) → j < length (n ∷ ns) → (get_or (n ∷ ns) j nobody).number ≡ x
        → ((k : ℕ) → k < length ns → (get_or ns k nobody).number ≡ x → is_none (node_in ns x) ≡ false) → is_none (cond b (Some n) (node_in ns x)) ≡ false
    go true q j h e k = refl
    go false q zero h e k = absurd (eqb-false n.number x q e)
    go false q (suc j) h e k = k j (omega arith) e

-- the root is its own parent, whatever the nodes are
pub parent_root : (ns : List Node) (x : ℕ) → x ≡ root_number → parent_in ns x ≡ root_number
unfolding parent_in
parent_root ns x r = rw (eq-eqb x 1 r)

module _ (mem : List ℕ) (x : ℕ) where
  -- ---- what the rules say of the number, by its place

  pub known_root : x ≡ root_number → is_known (nodes_of mem) x ≡ true
  unfolding is_known
  known_root r = rw (eq-eqb x 1 r)

  -- but the root, the numbers known are those that rows have
  pub known_else : (x ≡ root_number → ⊥) → is_known (nodes_of mem) x ≡ is_some (place_in (nodes_of mem) x)
  unfolding is_known
  known_else r = go (place_in (nodes_of mem) x) refl
    where
      go : (o : Option ℕ) → place_in (nodes_of mem) x ≡ o → (eqb x root_number || not (is_none (node_in (nodes_of mem) x))) ≡ is_some o
      go None e = rw (ne_eqb x 1 r, (place_nowhere (nodes_of mem) x e).node)
      go (Some i) e = rw (ne_eqb x 1 r, node_found mem x i e)

  -- a number that row i has is known
  pub known_by_row : (x ≡ root_number → ⊥) → (i : ℕ) → i < count_of mem → (node_at (capacity_of mem) mem i).number ≡ x → is_known (nodes_of mem) x ≡ true
  unfolding is_known
  known_by_row r i h e = rw (ne_eqb x 1 r) (ap not (some_node (nodes_of mem) x i (omega (arith, nodes_count mem)) (rw (nodes_at mem i h) e)))

  pub parent_found : (x ≡ root_number → ⊥) → (i : ℕ) → place_in (nodes_of mem) x ≡ Some i → parent_in (nodes_of mem) x ≡ (node_at (capacity_of mem) mem i).parent
  unfolding parent_in
  parent_found r i e = rw (ne_eqb x 1 r, node_found mem x i e)

  pub parent_missing : (x ≡ root_number → ⊥) → place_in (nodes_of mem) x ≡ None → parent_in (nodes_of mem) x ≡ root_number
  unfolding parent_in
  parent_missing r e = rw (ne_eqb x 1 r, (place_nowhere (nodes_of mem) x e).node)

  pub mount_root : x ≡ root_number → mount_of_node (view mem).tree x ≡ (view mem).tree.root
  unfolding mount_of_node
  mount_root r = rw (eq-eqb x 1 r)

  pub mount_found : (x ≡ root_number → ⊥) → (i : ℕ) → place_in (nodes_of mem) x ≡ Some i → mount_of_node (view mem).tree x ≡ (node_at (capacity_of mem) mem i).mount
  unfolding mount_of_node view
  mount_found r i e = rw (ne_eqb x 1 r, node_found mem x i e)

  pub mount_missing : (x ≡ root_number → ⊥) → place_in (nodes_of mem) x ≡ None → mount_of_node (view mem).tree x ≡ None
  unfolding mount_of_node view
  mount_missing r e = rw (ne_eqb x 1 r, (place_nowhere (nodes_of mem) x e).node)

  -- ---- what is written for the number, by its place

  pub set_root : (m : Option Mount) → x ≡ root_number → node_mount_mem (nodes_of mem) m x mem ≡ set_root_mount m mem
  unfolding node_mount_mem
  set_root m r = rw (eq-eqb x 1 r)

  pub set_found : (m : Option Mount) → (x ≡ root_number → ⊥) → (i : ℕ) → place_in (nodes_of mem) x ≡ Some i → node_mount_mem (nodes_of mem) m x mem ≡ set_row_mount m i mem
  unfolding node_mount_mem
  set_found m r i e = rw (ne_eqb x 1 r, e)

  pub set_missing : (m : Option Mount) → (x ≡ root_number → ⊥) → place_in (nodes_of mem) x ≡ None → node_mount_mem (nodes_of mem) m x mem ≡ mem
  unfolding node_mount_mem
  set_missing m r e = rw (ne_eqb x 1 r, e)

  -- ---- its row, for the functions that do not search it

  pub row_root : x ≡ root_number → None ≡ row_for (nodes_of mem) x
  unfolding row_for
  row_root r = rw (eq-eqb x 1 r)

  pub row_else : (x ≡ root_number → ⊥) → row_for (nodes_of mem) x ≡ place_in (nodes_of mem) x
  unfolding row_for
  row_else r = rw (ne_eqb x 1 r)

-- no mount: the cell alone
pub clear_root : (mem : List ℕ) → set_root_mount None mem ≡ put 8 mem root_cell_at 0
unfolding set_root_mount put_header put_row put
clear_root mem = refl

pub clear_row : (mem : List ℕ) (n i : ℕ) → n ≡ capacity_of mem → set_row_mount None i mem ≡ put 8 mem (mount_cell_at n i) 0
unfolding set_row_mount put_row put
clear_row mem n i e = rw e
