-- The searches over the rows: what is left to find is what was to find. Assumes nothing.
use mathlib.Core.Path.{◌≡◌, refl, sym, ap, ◌∙◌}
use mathlib.Core.Bool.{true, false}
use mathlib.Core.List.{List}
use Rattle.std.specs.Prelude.{Option, None, Some}
use Prim.Native.Nat.{ℕ, ◌+◌, ◌-◌, ◌≤◌, ◌<◌}
use native.Mathlib.Nat.{zero-add, add-zero, sub-zero}
use native.Mathlib.Omega.{arith}
use borrow.Author.Tests.{eq-eqb, ne_eqb}
use Rattle.le.specs.Mem.{get, same}
use Rattle.rules.specs.Tree.{Node, is_child, child_in}
use Rattle.tables.specs.Table.{row, tab}
use Rattle.tables.specs.Layout.{capacity_of, count_of}
use Rattle.tables.specs.View.{node_at, nodes_from, nodes_of}
use Rattle.tables.specs.Answer.{later, place_in}
use Rattle.tables.proofs.Tab.{tab_next, tab_done}

-- the nodes by their count
pub nodes_of_lem : (mem : List ℕ) → nodes_of mem ≡ tab (node_at (capacity_of mem) mem) 0 (count_of mem)
unfolding nodes_of nodes_from row get
nodes_of_lem mem = refl

-- i of c rows were looked at
abbrev pub left : List ℕ → ℕ → ℕ → List Node
left mem c i = tab (node_at (capacity_of mem) mem) i (c - i)

-- none of them: all nodes are left
pub none_looked : (mem : List ℕ) (c : ℕ) → c ≡ count_of mem → nodes_of mem ≡ left mem c 0
none_looked mem c e = nodes_of_lem mem ∙ rw (sub-zero, e)

-- ---- the child of a name

module _ (here : ℕ) (p : List ℕ) (n : Node) where
  pub child_else : (n.parent ≡ here → ⊥) → is_child here p n ≡ false
  unfolding is_child
  child_else h = rw (ne_eqb n.parent here h)

  pub child_named : n.parent ≡ here → is_child here p n ≡ same n.name p
  unfolding is_child
  child_named h = rw (eq-eqb n.parent here h)

-- the first among all is the first among those that are left
abbrev pub Sought : List ℕ → ℕ → List ℕ → ℕ → Type 0
Sought mem here p i = (i ≤ count_of mem) × (child_in (nodes_of mem) here p ≡ child_in (left mem (count_of mem) i) here p)

module _ (mem : List ℕ) (here : ℕ) (p : List ℕ) where
  pub child_begins : Sought mem here p 0
  child_begins = (omega arith, ap (λ (ns : List Node). child_in ns here p) (none_looked mem (count_of mem) refl))

  pub child_here : (i : ℕ) → Sought mem here p i → i < count_of mem → is_child here p (node_at (capacity_of mem) mem i) ≡ true
      → child_in (nodes_of mem) here p ≡ Some (node_at (capacity_of mem) mem i).number
  unfolding child_in
  child_here i s h e = s.1 ∙ rw (tab_next (node_at (capacity_of mem) mem) i (count_of mem) h, e)

  pub child_on : (i : ℕ) → Sought mem here p i → i < count_of mem → is_child here p (node_at (capacity_of mem) mem i) ≡ false → Sought mem here p (i + 1)
  unfolding child_in
  child_on i s h e = (omega arith, s.1 ∙ rw (tab_next (node_at (capacity_of mem) mem) i (count_of mem) h, e))

  pub child_none : (i : ℕ) → Sought mem here p i → count_of mem ≤ i → child_in (nodes_of mem) here p ≡ None
  unfolding child_in
  child_none i s h = s.1 ∙ rw (tab_done (node_at (capacity_of mem) mem) i (count_of mem) h)

-- ---- the place of a number

-- a place, i further on
unfoldable pub past : ℕ → Option ℕ → Option ℕ
past i None = None
past i (Some j) = Some (i + j)

past_later : (i : ℕ) (o : Option ℕ) → past i (later o) ≡ past (i + 1) o
unfolding past
past_later i None = refl
past_later i (Some j) = ap Some (omega arith)

past_zero : (o : Option ℕ) → past 0 o ≡ o
unfolding past
past_zero None = refl
past_zero (Some j) = ap Some (zero-add j)

abbrev pub Placed : List ℕ → ℕ → ℕ → Type 0
Placed mem x i = (i ≤ count_of mem) × (place_in (nodes_of mem) x ≡ past i (place_in (left mem (count_of mem) i) x))

module _ (mem : List ℕ) (x : ℕ) where
  pub place_begins : Placed mem x 0
  place_begins = (omega arith, ap (λ (ns : List Node). place_in ns x) (none_looked mem (count_of mem) refl) ∙ sym (past_zero (place_in (left mem (count_of mem) 0) x)))

  pub place_here : (i : ℕ) → Placed mem x i → i < count_of mem → (node_at (capacity_of mem) mem i).number ≡ x → place_in (nodes_of mem) x ≡ Some i
  unfolding place_in past
  place_here i s h e = s.1 ∙ rw (tab_next (node_at (capacity_of mem) mem) i (count_of mem) h, eq-eqb (node_at (capacity_of mem) mem i).number x e, add-zero)

  pub place_on : (i : ℕ) → Placed mem x i → i < count_of mem → ((node_at (capacity_of mem) mem i).number ≡ x → ⊥) → Placed mem x (i + 1)
  unfolding place_in
  place_on i s h e =
      (omega arith, s.1 ∙ rw (tab_next (node_at (capacity_of mem) mem) i (count_of mem) h, ne_eqb (node_at (capacity_of mem) mem i).number x e) (past_later i (place_in (left mem (count_of mem) (i + 1)) x)))

  pub place_none : (i : ℕ) → Placed mem x i → count_of mem ≤ i → place_in (nodes_of mem) x ≡ None
  unfolding place_in past
  place_none i s h = s.1 ∙ rw (tab_done (node_at (capacity_of mem) mem) i (count_of mem) h)
