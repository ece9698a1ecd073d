-- What a mount walk makes: numbers in a row from the next one on, parents below 2^56, names of at most 255 bytes. Assumes nothing.
use mathlib.Core.Path.{◌≡◌, refl, ap, subst}
use mathlib.Core.Bool.{false}
use mathlib.Core.List.{List, [], ◌∷◌, ◌++◌}
use Rattle.std.specs.Prelude.{Option, None, Some}
use Prim.Native.Nat.{ℕ, suc, ◌+◌, ◌^◌, ◌≤◌, ◌<◌}
use native.Mathlib.Nat.{add-zero}
use native.Mathlib.Omega.{arith}
use lib.ListN.{length, length-append}
use Rattle.rules.specs.Path.{Part, Normal, ParentDir, components, too_long}
use Rattle.rules.specs.Tree.{Node, Made, bare, child_in, or_make, mount_step, makes, at_root}
use Rattle.rules.specs.Mount.{planned}
use Rattle.rules.specs.claims.Names.{EachName}
use Rattle.rules.proofs.Parts.{Short, rest_names, names_short}
use Rattle.tables.specs.Layout.{next_of}
use Rattle.tables.specs.View.{nodes_of, view}
use Rattle.tables.proofs.Numbers.{LowNodes, nodes_low, child_low, parent_low}
use Rattle.plan.proofs.Spare.{planned_is}
use Rattle.plan.proofs.Nodes.{makes_grows}

-- ---- new nodes, numbered from x on

unfoldable pub Fresh : ℕ → List Node → Type 0
Fresh x [] = Unit {0}
Fresh x (n ∷ ns) = (n ≡ bare x n.parent n.name) × (n.parent < 2 ^ 56) × (length n.name ≤ 255) × Fresh (x + 1) ns

fresh_low : (x : ℕ) (ns : List Node) → Fresh x ns → x + length ns ≤ 2 ^ 56 → LowNodes ns
unfolding Fresh
fresh_low x [] f h = tt
fresh_low x (n ∷ ns) f h =
    let e : n.number ≡ x = ap (λ (m : Node). m.number) f.0 in
    (omega arith, f.1, fresh_low (x + 1) ns f.3 (omega arith))

fresh_more : (x : ℕ) (ns : List Node) (parent : ℕ) (p : List ℕ) → Fresh x ns → parent < 2 ^ 56 → length p ≤ 255 → Fresh x (ns ++ (bare (x + length ns) parent p ∷ []))
unfolding Fresh
fresh_more x [] parent p f a l = (rw add-zero, a, l, tt)
fresh_more x (n ∷ ns) parent p f a l =
    let e : x + 1 + length ns ≡ x + suc (length ns) = omega arith in
    (f.0, f.1, f.2, subst (λ (k : ℕ). Fresh (x + 1) (ns ++ (bare k parent p ∷ []))) e (fresh_more (x + 1) ns parent p f.3 a l))

-- ---- the walk

low_append : (xs ys : List Node) → LowNodes xs → LowNodes ys → LowNodes (xs ++ ys)
low_append [] ys a b = b
low_append (n ∷ xs) ys a b = (a.0, a.1, low_append xs ys a.2 b)

pub record Makes (next : ℕ) (m : Made) : Type 0 where
  pub fresh : Fresh next m.nodes
  pub here : m.here < 2 ^ 56

module _ (live : List Node) (next : ℕ) (low : LowNodes live) where
  all_low : (m : Made) → Makes next m → next + length m.nodes ≤ 2 ^ 56 → LowNodes (live ++ m.nodes)
  all_low m g h = low_append live m.nodes low (fresh_low next m.nodes g.fresh h)

  step_fresh : (m : Made) (p : Part) (ps : List Part) → EachName Short (p ∷ ps) → Makes next m → next + length m.nodes ≤ 2 ^ 56 → next + length (mount_step live next m p).nodes ≤ 2 ^ 56 → Makes next (mount_step live next m p)
  unfolding mount_step EachName
  step_fresh m (ParentDir at) ps s g b h = record { fresh = g.fresh; here = parent_low (live ++ m.nodes) (all_low m g b) m.here }
  step_fresh m (Normal at p) ps s g b h = go (child_in (live ++ m.nodes) m.here p) refl h
    where
      go : (o : Option ℕ) → child_in (live ++ m.nodes) m.here p ≡ o → next + length (or_make next m p o).nodes ≤ 2 ^ 56 → Makes next (or_make next m p o)
      go (Some x) e k = record { fresh = g.fresh; here = child_low (live ++ m.nodes) (all_low m g b) m.here p x e }
      go None e k =
          record {
            fresh = fresh_more next m.nodes m.here p g.fresh g.here s.0;
            here = omega (arith, length-append m.nodes (bare (next + length m.nodes) m.here p ∷ []));
          }

  makes_fresh : (m : Made) (ps : List Part) → EachName Short ps → Makes next m → next + length (makes live next m ps).nodes ≤ 2 ^ 56 → Makes next (makes live next m ps)
  unfolding makes
  makes_fresh m [] s g h = g
  makes_fresh m (p ∷ ps) s g h =
      let a = makes_grows live next m (p ∷ []) in
      let b = makes_grows live next (mount_step live next m p) ps in
      makes_fresh (mount_step live next m p) ps (rest_names Short p ps s) (step_fresh m p ps s g (omega arith) (omega arith)) h

-- the theorem: of a path that is not too long, where the numbers are within their limit
pub planned_fresh : (mem path : List ℕ) → too_long path ≡ false → next_of mem + length (planned (view mem).tree path).nodes ≤ 2 ^ 56 → Fresh (next_of mem) (planned (view mem).tree path).nodes
unfolding Fresh
planned_fresh mem path s h =
    rw (planned_is mem path)
    (makes_fresh (nodes_of mem) (next_of mem) (nodes_low mem) at_root (components 0 path) (names_short path s) (record { fresh = tt; here = omega arith }) (rw (planned_is mem path) at h)).fresh
