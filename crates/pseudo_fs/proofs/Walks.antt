-- The walk by its steps: what is left to walk is the whole walk. Assumes nothing.
use mathlib.Core.Path.{◌≡◌, refl, sym, ◌∙◌}
use mathlib.Core.List.{List, [], ◌∷◌}
use Rattle.std.specs.Prelude.{Option, None, Some}
use Prim.Native.Nat.{ℕ, ◌-◌, ◌≤◌, ◌<◌}
use native.Mathlib.Omega.{arith}
use lib.ListN.{length, drop}
use Rattle.rules.specs.Numbers.{root_number}
use Rattle.rules.specs.Path.{Part, Normal, ParentDir, components}
use Rattle.rules.specs.Tree.{Node, child_in, parent_in, walk}
use Rattle.rules.specs.Reached.{reached}
use Rattle.path.specs.Steps.{part, between, StepsOver}
use Rattle.tables.specs.View.{nodes_of, view}

-- the walk from a node and a place of the path on is the walk of the whole path
abbrev pub Going : List ℕ → List ℕ → ℕ → ℕ → Type 0
Going mem path node at = walk (nodes_of mem) node (components at (drop at path)) ≡ reached (view mem) path

-- ---- one component

module _ (nodes : List Node) (node : ℕ) {ps qs : List Part} where
  up_walk : (at : ℕ) → qs ≡ ParentDir at ∷ ps → walk nodes node qs ≡ walk nodes (parent_in nodes node) ps
  unfolding walk
  up_walk at e = rw e

  to_walk : (at : ℕ) (p : List ℕ) (x : ℕ) → qs ≡ Normal at p ∷ ps → child_in nodes node p ≡ Some x → walk nodes node qs ≡ walk nodes x ps
  unfolding walk
  to_walk at p x e f = rw (e, f)

  no_walk : (at : ℕ) (p : List ℕ) → qs ≡ Normal at p ∷ ps → child_in nodes node p ≡ None → walk nodes node qs ≡ None
  unfolding walk
  no_walk at p e f = rw (e, f)

-- ---- one turn of the code

pub begins : (mem path : List ℕ) → Going mem path root_number 0
unfolding reached view
begins mem path = refl

module _ (mem path : List ℕ) (node at : ℕ) (g : Going mem path node at) where
  pub arrives : components at (drop at path) ≡ [] → Some node ≡ reached (view mem) path
  unfolding walk
  arrives e = rw e at g

  pub goes_up : (x start n next : ℕ) → StepsOver path at (ParentDir start) start n next → x ≡ parent_in (nodes_of mem) node → Going mem path x next
  goes_up x start n next s e = rw e (sym (up_walk (nodes_of mem) node start s.parts) ∙ g)

  module _ (start n next : ℕ) (s : StepsOver path at (Normal start (part path start n)) start n next) where
    -- the name, from its start to its end
    named : (o : Option ℕ) → child_in (nodes_of mem) node (between path start next) ≡ o → child_in (nodes_of mem) node (part path start n) ≡ o
    named o f = let e : next - start ≡ n = omega (arith, s.end) in rw e at f

    pub goes_to : (x : ℕ) → child_in (nodes_of mem) node (between path start next) ≡ Some x → Going mem path x next
    goes_to x f = sym (to_walk (nodes_of mem) node start (part path start n) x s.parts (named (Some x) f)) ∙ g

    pub stops : child_in (nodes_of mem) node (between path start next) ≡ None → None ≡ reached (view mem) path
    stops f = sym (no_walk (nodes_of mem) node start (part path start n) s.parts (named None f)) ∙ g

-- what a step along the components gives the loop: the bounds of the part, and that less of the path is left
pub bounds : (path : List ℕ) (at : ℕ) (p : Part) (start n next : ℕ) → StepsOver path at p start n next → (start ≤ next) × (next ≤ length path)
bounds path at p start n next s = (omega (arith, s.end), s.within)

pub nearer : (path : List ℕ) (at : ℕ) (p : Part) (start n next : ℕ) → StepsOver path at p start n next → length path - next < length path - at
nearer path at p start n next s = omega (arith, s.further, s.within)
