-- The children among the rows that are left to look at. Assumes nothing.
use mathlib.Core.Path.{◌≡◌, sym, ap}
use mathlib.Core.List.{List, [], ◌∷◌}
use Prim.Native.Nat.{ℕ, ◌+◌, ◌≤◌, ◌<◌}
use borrow.Author.Tests.{eq-eqb, ne_eqb}
use Rattle.rules.specs.Tree.{Node, children_in}
use Rattle.tables.specs.Layout.{capacity_of, count_of}
use Rattle.tables.specs.View.{node_at, nodes_of}
use Rattle.tables.proofs.Tab.{tab_next, tab_done}
use Rattle.tables.proofs.Find.{left, none_looked}

-- the children of x among the rows from row i on, of c rows
abbrev pub children_left : List ℕ → ℕ → ℕ → ℕ → List Node
children_left mem x c i = children_in (left mem c i) x

module _ (mem : List ℕ) (x c : ℕ) where
  abbrev node : ℕ → Node
  node i = node_at (capacity_of mem) mem i

  -- no row was looked at
  pub children_all : c ≡ count_of mem → children_left mem x c 0 ≡ children_in (nodes_of mem) x
  children_all e = sym (ap (λ (ns : List Node). children_in ns x) (none_looked mem c e))

  -- the next row is a child
  pub children_next : (i : ℕ) → i < c → (node i).parent ≡ x → children_left mem x c i ≡ node i ∷ children_left mem x c (i + 1)
  unfolding children_in
  children_next i h e = rw (tab_next (node_at (capacity_of mem) mem) i c h, eq-eqb (node i).parent x e)

  -- it is none
  pub children_not : (i : ℕ) → i < c → ((node i).parent ≡ x → ⊥) → children_left mem x c i ≡ children_left mem x c (i + 1)
  unfolding children_in
  children_not i h e = rw (tab_next (node_at (capacity_of mem) mem) i c h, ne_eqb (node i).parent x e)

  -- no row is left
  pub children_end : (i : ℕ) → c ≤ i → children_left mem x c i ≡ []
  unfolding children_in
  children_end i h = rw (tab_done (node_at (capacity_of mem) mem) i c h)
