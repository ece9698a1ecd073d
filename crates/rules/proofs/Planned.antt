-- A mount walk along a path that is there already makes nothing, and ends where the path leads. Assumes nothing.
use mathlib.Core.Path.{◌≡◌, ap}
use mathlib.Core.List.{List, [], ◌∷◌, append-nil}
use Rattle.std.specs.Prelude.{Option, None, Some}
use Rattle.std.proofs.lemmas.Option.{same_Some, none-some}
use Prim.Native.Nat.{ℕ}
use Rattle.rules.specs.Numbers.{root_number}
use Rattle.rules.specs.Path.{Part, Normal, ParentDir, components}
use Rattle.rules.specs.Tree.{Node, child_in, parent_in, onward, walk, or_make, mount_step, makes}
use Rattle.rules.specs.Mount.{planned}
use Rattle.rules.specs.Reached.{reached}
use Rattle.rules.specs.claims.Walk.{PlannedNone}

module _ (live : List Node) (next : ℕ) where
  pub makes_none : (ps : List Part) (here x : ℕ) → walk live here ps ≡ Some x → makes live next (record { nodes = []; here = here }) ps ≡ record { nodes = []; here = x }
  unfolding walk makes mount_step
  makes_none [] here x e = ap (λ (y : ℕ). record { nodes = []; here = y }) (same_Some here x e)
  makes_none (ParentDir at ∷ ps) here x e = rw (append-nil live) (makes_none ps (parent_in live here) x e)
  makes_none (Normal at p ∷ ps) here x e = rw (append-nil live) (go (child_in live here p) e (λ y. makes_none ps y x))
    where
      go : (o : Option ℕ) → onward o (λ (y : ℕ). walk live y ps) ≡ Some x
          → ((y : ℕ) → walk live y ps ≡ Some x → makes live next (record { nodes = []; here = y }) ps ≡ record { nodes = []; here = x })
          → makes live next (or_make next (record { nodes = []; here = here }) p o) ps ≡ record { nodes = []; here = x }
      go None f k = absurd (none-some x f)
      go (Some y) f k = k y f

-- the theorem
pub planned_none : PlannedNone
unfolding reached planned
planned_none i path x e = makes_none i.tree.nodes i.tree.next (components 0 path) root_number x e
