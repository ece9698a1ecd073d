-- A mount walk from the root ends at a live node, and what it makes keeps the shape. Assumes nothing.
use mathlib.Core.Path.{◌≡◌, refl, subst, sym}
use mathlib.Core.Bool.{Bool, true, false, cond, ◌&&◌}
use mathlib.Core.Logic.{◌⊎◌, inl, inr}
use mathlib.Core.List.{List, [], ◌∷◌, ◌++◌, append_assoc, append-nil}
use Rattle.std.specs.Prelude.{Option, None, Some}
use Rattle.std.proofs.lemmas.Option.{none-some}
use Prim.Native.Nat.{ℕ, ◌+◌, ◌≤◌, ◌<◌}
use native.Mathlib.Nat.{add-zero}
use native.Mathlib.Omega.{arith}
use lib.ListN.{length, length-append}
use lib.Dec.{eqb}
use borrow.Author.Tests.{eqb-true, eq-eqb, ne_eqb}
use Rattle.rules.specs.Numbers.{root_number}
use Rattle.rules.specs.Bytes.{same}
use Rattle.rules.specs.Path.{Part, Normal, ParentDir, components}
use Rattle.rules.specs.Tree.{Node, Made, bare, is_child, child_in, node_in, parent_of, parent_in, or_make, mount_step, makes, at_root}
use Rattle.rules.specs.Instance.{Tree}
use Rattle.rules.specs.Saved.{good_name}
use Rattle.rules.specs.StateRestore.{saved_node, saved_nodes}
use Rattle.rules.specs.Mount.{planned}
use Rattle.rules.specs.claims.Driven.{Rises, Shape, Rooted, top, under}
use Rattle.rules.specs.claims.Names.{EachName, GoodName}
use Rattle.rules.specs.claims.Walk.{Walking, PlannedWalking}
use Rattle.rules.proofs.Parts.{rest_names}
use Rattle.rules.proofs.Names.{components_good}
use Rattle.rules.proofs.Shape.{saved_append, child_unused, shape_more, rises_end}

-- the root, or a live node
pub reached_live : (ns : List Node) (x : ℕ) → Rooted ns x → (x ≡ root_number) ⊎ ((n : Node) × (node_in ns x ≡ Some n))
reached_live ns x top = inl refl
reached_live ns x (under y n e r) = inr (n, e)

-- ---- up

pub rooted_up : (ns : List Node) (x : ℕ) → Rooted ns x → Rooted ns (parent_in ns x)
unfolding parent_in
rooted_up ns x top = top
rooted_up ns x (under y n e r) = go (eqb x root_number)
  where
    go : (b : Bool) → Rooted ns (cond b root_number (parent_of (node_in ns x)))
    go true = top
    go false = rw e r

-- ---- down

abbrev Place : List Node → ℕ → ℕ → ℕ → ℕ → Type 0
Place ns low high here x = (n : Node) × (node_in ns x ≡ Some n) × (n.parent ≡ here) × (low ≤ x) × (x < high)

child_place : (ns : List Node) (low high here : ℕ) (p : List ℕ) (x : ℕ) → Rises low (saved_nodes ns) high → child_in ns here p ≡ Some x → Place ns low high here x
unfolding child_in is_child node_in saved_nodes Rises
child_place [] low high here p x r e = absurd (none-some x e)
child_place (n ∷ ns) low high here p x r e =
    go (eqb n.parent here) refl (same n.name p) e (child_place ns (n.number + 1) high here p x r.1)
  where
    later : Place ns (n.number + 1) high here x → Place (n ∷ ns) low high here x
    later (m, f, g, l, h) = (m, rw (ne_eqb n.number x (λ q. omega arith)) f, g, omega (arith, r.0), h)

    go : (a : Bool) → eqb n.parent here ≡ a → (b : Bool) → cond (a && b) (Some n.number) (child_in ns here p) ≡ Some x
        → (child_in ns here p ≡ Some x → Place ns (n.number + 1) high here x) → Place (n ∷ ns) low high here x
    go true q true f k =
        let s : n.number ≡ x = cc in
        (n, rw (eq-eqb n.number x s), eqb-true n.parent here q, omega (arith, r.0), omega (arith, rises_end (n.number + 1) high (saved_nodes ns) r.1))
    go true q false f k = later (k f)
    go false q b f k = later (k f)

pub rooted_down : (ns : List Node) (high here : ℕ) (p : List ℕ) (x : ℕ) → Rises 2 (saved_nodes ns) high → child_in ns here p ≡ Some x → Rooted ns here → Rooted ns x
rooted_down ns high here p x r e h = go (child_place ns 2 high here p x r e)
  where
    go : Place ns 2 high here x → Rooted ns x
    go (n, f, g, l, k) = under x n f (rw g h)

-- ---- more nodes

pub node_append : (ns ms : List Node) (x : ℕ) (n : Node) → node_in ns x ≡ Some n → node_in (ns ++ ms) x ≡ Some n
unfolding node_in
node_append [] ms x n e = absurd (none-some n e)
node_append (m ∷ ns) ms x n e = go (eqb m.number x) e (node_append ns ms x n)
  where
    go : (b : Bool) → cond b (Some m) (node_in ns x) ≡ Some n → (node_in ns x ≡ Some n → node_in (ns ++ ms) x ≡ Some n) → cond b (Some m) (node_in (ns ++ ms) x) ≡ Some n
    go true f k = f
    go false f k = k f

pub node_second : (ns ms : List Node) (x : ℕ) → node_in ns x ≡ None → node_in (ns ++ ms) x ≡ node_in ms x
unfolding node_in
node_second [] ms x e = refl
node_second (m ∷ ns) ms x e = go (eqb m.number x) e (node_second ns ms x)
  where
    go : (b : Bool) → cond b (Some m) (node_in ns x) ≡ None → (node_in ns x ≡ None → node_in (ns ++ ms) x ≡ node_in ms x) → cond b (Some m) (node_in (ns ++ ms) x) ≡ node_in ms x
    go true f k = absurd (none-some m (sym f))
    go false f k = k f

reached_append : (ns ms : List Node) (x : ℕ) → Rooted ns x → Rooted (ns ++ ms) x
reached_append ns ms x top = top
reached_append ns ms x (under y n e r) = under y n (node_append ns ms y n e) (reached_append ns ms n.parent r)

-- a new number is that of the last node
node_last : (ns : List Node) (low high : ℕ) (n : Node) → Rises low (saved_nodes ns) high → n.number ≡ high → node_in (ns ++ (n ∷ [])) high ≡ Some n
unfolding node_in saved_nodes Rises
node_last [] low high n r e = rw (eq-eqb n.number high e)
node_last (m ∷ ns) low high n r e =
    let l = rises_end (m.number + 1) high (saved_nodes ns) r.1 in
    rw (ne_eqb m.number high (λ q. omega arith)) (node_last ns (m.number + 1) high n r.1 e)

-- the bounds of what is reached
node_bounds : (ns : List Node) (low high x : ℕ) (n : Node) → Rises low (saved_nodes ns) high → node_in ns x ≡ Some n → (low ≤ x) × (x < high)
unfolding node_in saved_nodes Rises
node_bounds [] low high x n r e = absurd (none-some n e)
node_bounds (m ∷ ns) low high x n r e = go (eqb m.number x) refl e (node_bounds ns (m.number + 1) high x n r.1)
  where
    go : (b : Bool) → eqb m.number x ≡ b → cond b (Some m) (node_in ns x) ≡ Some n → (node_in ns x ≡ Some n → (m.number + 1 ≤ x) × (x < high)) → (low ≤ x) × (x < high)
    go true q f k =
        let s = eqb-true m.number x q in
        (omega (arith, r.0), omega (arith, rises_end (m.number + 1) high (saved_nodes ns) r.1))
    go false q f k =
        let b = k f in
        (omega (arith, r.0, b.0), b.1)

reached_bounds : (ns : List Node) (high x : ℕ) → Rises 2 (saved_nodes ns) high → Rooted ns x → (1 ≤ x) × (x < high)
reached_bounds ns high x r top = (omega arith, omega (arith, rises_end 2 high (saved_nodes ns) r))
reached_bounds ns high x r (under y n e h) =
    let b = node_bounds ns 2 high x n r e in
    (omega (arith, b.0), b.1)

-- ---- the mount walk

-- what holds of the nodes of a tree, and with a new node put last, holds with those that a mount walk makes
module _ (P : List Node → Type 0) (t : Tree) (more : (ns : List Node) (n : Node) → t.next ≤ n.number → n.mount ≡ None → P ns → P (ns ++ (n ∷ []))) where
  pub makes_all : (ps : List Part) (m : Made) → P (t.nodes ++ m.nodes) → P (t.nodes ++ (makes t.nodes t.next m ps).nodes)
  unfolding makes mount_step
  makes_all [] m h = h
  makes_all (ParentDir at ∷ ps) m h = makes_all ps _ h
  makes_all (Normal at p ∷ ps) m h = makes_all ps _ (made (child_in (t.nodes ++ m.nodes) m.here p))
    where
      made : (y : Option ℕ) → P (t.nodes ++ (or_make t.next m p y).nodes)
      made None =
          let n = bare (t.next + length m.nodes) m.here p in
          subst P (append_assoc t.nodes m.nodes (n ∷ [])) (more (t.nodes ++ m.nodes) n (omega arith) refl h)
      made (Some y) = h

  pub planned_all : (path : List ℕ) → P t.nodes → P (t.nodes ++ (planned t path).nodes)
  unfolding planned
  planned_all path h = makes_all (components 0 path) at_root (rw (append-nil t.nodes) h)

module _ (live : List Node) (next : ℕ) where
  makes_one : (m : Made) (p : List ℕ) → good_name p ≡ true → Walking live next m → child_in (live ++ m.nodes) m.here p ≡ None → Walking live next (or_make next m p None)
  unfolding saved_nodes
  makes_one m p g w e =
      let x = next + length m.nodes in
      let n = bare x m.here p in
      let b = reached_bounds (live ++ m.nodes) x m.here w.shape.rises w.reached in
      let grown : Shape (saved_nodes ((live ++ m.nodes) ++ (n ∷ []))) (x + 1) = rw (saved_append (live ++ m.nodes) (n ∷ [])) (shape_more (saved_nodes (live ++ m.nodes)) x (saved_node n) w.shape refl (child_unused (live ++ m.nodes) m.here p e) g b.0 b.1) in
      let size : next + length (m.nodes ++ (n ∷ [])) ≡ x + 1 = omega (arith, length-append m.nodes (n ∷ [])) in
      let found = node_last (live ++ m.nodes) 2 x n w.shape.rises refl in
      record {
        shape = rw (size, ← append_assoc live m.nodes (n ∷ [])) grown;
        reached = rw (← append_assoc live m.nodes (n ∷ [])) (under x n found (reached_append (live ++ m.nodes) (n ∷ []) m.here w.reached));
      }

  pub step_walking : (m : Made) (p : Part) (ps : List Part) → EachName GoodName (p ∷ ps) → Walking live next m → Walking live next (mount_step live next m p)
  unfolding mount_step EachName
  step_walking m (ParentDir at) ps g w = record { shape = w.shape; reached = rooted_up (live ++ m.nodes) m.here w.reached }
  step_walking m (Normal at p) ps g w = go (child_in (live ++ m.nodes) m.here p) refl
    where
      go : (o : Option ℕ) → child_in (live ++ m.nodes) m.here p ≡ o → Walking live next (or_make next m p o)
      go (Some x) e = record { shape = w.shape; reached = rooted_down (live ++ m.nodes) (next + length m.nodes) m.here p x w.shape.rises e w.reached }
      go None e = makes_one m p g.0 w e

  makes_walking : (m : Made) (ps : List Part) → EachName GoodName ps → Walking live next m → Walking live next (makes live next m ps)
  unfolding makes
  makes_walking m [] g w = w
  makes_walking m (p ∷ ps) g w = makes_walking (mount_step live next m p) ps (rest_names GoodName p ps g) (step_walking m p ps g w)

-- the theorem: of a path that rows 1 and 2 of a mount let pass
pub planned_walking : PlannedWalking
unfolding planned
planned_walking t path s l u =
    makes_walking t.nodes t.next at_root (components 0 path) (components_good path l u)
    (record { shape = rw (append-nil t.nodes, add-zero t.next) s; reached = top })
