-- Numbers of nodes in the bytes are below 2^56, and so is every number that a find gives. Assumes nothing.
use mathlib.Core.Path.{◌≡◌, refl, sym, subst}
use mathlib.Core.Bool.{Bool, true, false, cond, not, ◌||◌, false≢true}
use mathlib.Core.List.{List, [], ◌∷◌}
use Rattle.std.specs.Prelude.{Option, None, Some}
use Rattle.std.proofs.lemmas.Option.{none-some}
use Prim.Native.Nat.{ℕ, zero, suc, ◌+◌, ◌^◌, ◌<◌}
use native.Mathlib.Omega.{arith}
use lib.Dec.{eqb}
use borrow.Author.Tests.{eqb-true}
use Rattle.rules.specs.Numbers.{root_number}
use Rattle.rules.specs.Tree.{Node, is_none, is_child, child_in, node_in, is_known, parent_of, parent_in}
use Rattle.tables.specs.Table.{tab}
use Rattle.tables.specs.Layout.{capacity_of, count_of}
use Rattle.tables.specs.View.{node_from, node_at, nodes_of}
use Rattle.tables.proofs.Find.{nodes_of_lem}

-- every number and every parent
abbrev pub LowNodes : List Node → Type 0
LowNodes [] = Unit {0}
LowNodes (n ∷ ns) = (n.number < 2 ^ 56) × (n.parent < 2 ^ 56) × LowNodes ns

tab_low : (f : ℕ → Node) → ((i : ℕ) → ((f i).number < 2 ^ 56) × ((f i).parent < 2 ^ 56)) → (i k : ℕ) → LowNodes (tab f i k)
unfolding tab
tab_low f h i zero = tt
tab_low f h i (suc k) = ((h i).0, (h i).1, tab_low f h (i + 1) k)

node_low : (n : ℕ) (mem : List ℕ) (i : ℕ) → ((node_at n mem i).number < 2 ^ 56) × ((node_at n mem i).parent < 2 ^ 56)
unfolding node_at node_from
node_low n mem i = (omega arith, omega arith)

pub nodes_low : (mem : List ℕ) → LowNodes (nodes_of mem)
nodes_low mem = subst LowNodes (sym (nodes_of_lem mem)) (tab_low (node_at (capacity_of mem) mem) (node_low (capacity_of mem) mem) 0 (count_of mem))

-- ---- what is found among them

pub child_low : (ns : List Node) → LowNodes ns → (here : ℕ) (p : List ℕ) (y : ℕ) → child_in ns here p ≡ Some y → y < 2 ^ 56
unfolding child_in
child_low [] l here p y e = absurd (none-some _ e)
child_low (n ∷ ns) l here p y e = go (is_child here p n) e (child_low ns l.2 here p y)
  where
    go : (b : Bool) → cond b (Some n.number) (child_in ns here p) ≡ Some y → (child_in ns here p ≡ Some y → y < 2 ^ 56) → y < 2 ^ 56
    go true f k = let z : n.number ≡ y = cc in omega (arith, l.0)
    go false f k = k f

-- the node of a number: its number is that one
in_low : (ns : List Node) → LowNodes ns → (x : ℕ) (n : Node) → node_in ns x ≡ Some n → (x < 2 ^ 56) × (n.parent < 2 ^ 56)
unfolding node_in
in_low [] l x n e = absurd (none-some _ e)
in_low (m ∷ ns) l x n e = go (eqb m.number x) refl e (in_low ns l.2 x n)
  where
    go : (b : Bool) → eqb m.number x ≡ b → cond b (Some m) (node_in ns x) ≡ Some n → (node_in ns x ≡ Some n → (x < 2 ^ 56) × (n.parent < 2 ^ 56)) → (x < 2 ^ 56) × (n.parent < 2 ^ 56)
    go true t f k =
        let z : m ≡ n = cc in
        (omega (arith, l.0, eqb-true m.number x t), subst (λ (q : Node). q.parent < 2 ^ 56) z l.1)
    go false t f k = k f

module _ (ns : List Node) (l : LowNodes ns) (x : ℕ) where
  pub known_low : is_known ns x ≡ true → x < 2 ^ 56
  unfolding is_known
  known_low e = go (eqb x root_number) refl (node_in ns x) refl e
    where
      go : (b : Bool) → eqb x root_number ≡ b → (o : Option Node) → node_in ns x ≡ o → (b || not (is_none o)) ≡ true → x < 2 ^ 56
      go true t o q f = omega (arith, eqb-true x root_number t)
      go false t None q f = absurd (false≢true f)
      go false t (Some n) q f = (in_low ns l x n q).0

  pub parent_low : parent_in ns x < 2 ^ 56
  unfolding parent_in
  parent_low = go (eqb x root_number) (node_in ns x) refl
    where
      go : (b : Bool) (o : Option Node) → node_in ns x ≡ o → cond b root_number (parent_of o) < 2 ^ 56
      go true o q = omega arith
      go false None q = omega arith
      go false (Some n) q = (in_low ns l x n q).1
