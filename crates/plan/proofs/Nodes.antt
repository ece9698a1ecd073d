-- Children among the nodes of two lists, and the growth of a mount walk. Assumes nothing.
use mathlib.Core.Path.{◌≡◌, refl, sym}
use mathlib.Core.Bool.{Bool, true, false, cond}
use mathlib.Core.List.{List, [], ◌∷◌, ◌++◌}
use Rattle.std.specs.Prelude.{Option, None, Some}
use Rattle.std.proofs.lemmas.Option.{none-some}
use Prim.Native.Nat.{ℕ, ◌≤◌}
use native.Mathlib.Omega.{arith}
use lib.ListN.{length, length-append}
use Rattle.rules.specs.Path.{Part, Normal, ParentDir}
use Rattle.rules.specs.Tree.{Node, Made, is_child, child_in, or_make, mount_step, makes}

-- ---- the first that is found

module _ (here : ℕ) (p : List ℕ) where
  pub child_first : (xs ys : List Node) {x : ℕ} → child_in xs here p ≡ Some x → child_in (xs ++ ys) here p ≡ Some x
  unfolding child_in
  child_first [] ys e = absurd (none-some _ e)
  child_first (n ∷ xs) ys {x} e = go (is_child here p n) (child_first xs ys) e
    where
      go : (t : Bool) → (child_in xs here p ≡ Some x → child_in (xs ++ ys) here p ≡ Some x) → cond t (Some n.number) (child_in xs here p) ≡ Some x → cond t (Some n.number) (child_in (xs ++ ys) here p) ≡ Some x
      go true ih e = e
      go false ih e = ih e

  pub child_second : (xs ys : List Node) → child_in xs here p ≡ None → child_in (xs ++ ys) here p ≡ child_in ys here p
  unfolding child_in
  child_second [] ys e = refl
  child_second (n ∷ xs) ys e = go (is_child here p n) (child_second xs ys) e
    where
      go : (t : Bool) → (child_in xs here p ≡ None → child_in (xs ++ ys) here p ≡ child_in ys here p) → cond t (Some n.number) (child_in xs here p) ≡ None → cond t (Some n.number) (child_in (xs ++ ys) here p) ≡ child_in ys here p
      go true ih e = absurd (none-some _ (sym e))
      go false ih e = ih e

-- ---- a mount walk only adds nodes

step_grows : (live : List Node) (next : ℕ) (m : Made) (p : Part) → length m.nodes ≤ length (mount_step live next m p).nodes
unfolding mount_step
step_grows live next m (ParentDir at) = omega arith
step_grows live next m (Normal at p) = go (child_in (live ++ m.nodes) m.here p)
  where
    go : (o : Option ℕ) → length m.nodes ≤ length (or_make next m p o).nodes
    go (Some x) = omega arith
    go None = simp length-append (omega arith)

pub makes_grows : (live : List Node) (next : ℕ) (m : Made) (ps : List Part) → length m.nodes ≤ length (makes live next m ps).nodes
unfolding makes
makes_grows live next m [] = omega arith
makes_grows live next m (p ∷ ps) = omega (arith, step_grows live next m p, makes_grows live next (mount_step live next m p) ps)
