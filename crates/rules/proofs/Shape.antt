-- The nodes of a driven instance, mounts left aside: one more, and one less. Assumes nothing.
use mathlib.Core.Path.{◌≡◌, refl, sym, ap, ◌∙◌}
use mathlib.Core.Bool.{Bool, true, false, cond, ◌&&◌, ◌||◌}
use mathlib.Core.List.{List, [], ◌∷◌, ◌++◌}
use Rattle.std.specs.Prelude.{Option, None, Some}
use Rattle.std.proofs.lemmas.Option.{none-some}
use Prim.Native.Nat.{ℕ, suc, ◌+◌, ◌≤◌, ◌<◌}
use native.Mathlib.Omega.{arith}
use lib.ListN.{length}
use lib.Dec.{eqb}
use Rattle.rules.specs.Bytes.{same}
use Rattle.rules.specs.Tree.{Mount, Node, is_child, child_in, with_mount, nodes_with_mount, without}
use Rattle.rules.specs.Saved.{SavedNode, used, good_name}
use Rattle.rules.specs.StateRestore.{saved_node, saved_nodes, nodes_of_records}
use Rattle.rules.specs.claims.Driven.{Rises, Below, Named, Unique, Shape}
use Rattle.rules.proofs.Tests.{or_neither}
use Rattle.rules.proofs.Same.{eqb_sym, same_sym}

-- ---- names in use

-- d stands among those before: a name that is not used there is not d's
unfoldable pub Among : SavedNode → List SavedNode → Type 0
Among d before = (x : ℕ) (p : List ℕ) → used x p before ≡ false → (eqb d.parent x && same d.name p) ≡ false

pub among_first : (d : SavedNode) (before : List SavedNode) → Among d (d ∷ before)
unfolding Among used
among_first d before x p u = (or_neither (eqb d.parent x && same d.name p) (used x p before) u).0

pub among_more : (d e : SavedNode) (before : List SavedNode) → Among d before → Among d (e ∷ before)
unfolding Among used
among_more d e before a x p u = a x p (or_neither (eqb e.parent x && same e.name p) (used x p before) u).1

-- ---- nodes, and as they are saved

pub saved_append : (xs ys : List Node) → saved_nodes (xs ++ ys) ≡ saved_nodes xs ++ saved_nodes ys
unfolding saved_nodes
saved_append [] ys = refl
saved_append (x ∷ xs) ys = ap (λ (l : List SavedNode). saved_node x ∷ l) (saved_append xs ys)

pub saved_mount : (m : Option Mount) (ns : List Node) (x : ℕ) → saved_nodes (nodes_with_mount m ns x) ≡ saved_nodes ns
unfolding saved_nodes nodes_with_mount
saved_mount m [] x = refl
saved_mount m (n ∷ ns) x = go (eqb n.number x) (saved_mount m ns x)
  where
    go : (b : Bool) → saved_nodes (nodes_with_mount m ns x) ≡ saved_nodes ns → saved_nodes (cond b (with_mount m n ∷ ns) (n ∷ nodes_with_mount m ns x)) ≡ saved_node n ∷ saved_nodes ns
    go true e = refl
    go false e = ap (λ (l : List SavedNode). saved_node n ∷ l) e

pub saved_from : (es : List SavedNode) → saved_nodes (nodes_of_records es) ≡ es
unfolding saved_nodes nodes_of_records
saved_from [] = refl
saved_from (e ∷ es) = ap (λ (l : List SavedNode). e ∷ l) (saved_from es)

pub saved_length : (ns : List Node) → length (saved_nodes ns) ≡ length ns
unfolding saved_nodes
saved_length [] = refl
saved_length (n ∷ ns) = ap suc (saved_length ns)

-- a missing child is a name that is not used
pub child_unused : (ns : List Node) (here : ℕ) (p : List ℕ) → child_in ns here p ≡ None → used here p (saved_nodes ns) ≡ false
unfolding child_in is_child saved_nodes used
child_unused [] here p e = refl
child_unused (n ∷ ns) here p e = go (eqb n.parent here && same n.name p) e (child_unused ns here p)
  where
    go : (b : Bool) → cond b (Some n.number) (child_in ns here p) ≡ None → (child_in ns here p ≡ None → used here p (saved_nodes ns) ≡ false) → (b || used here p (saved_nodes ns)) ≡ false
    go true f k = absurd (none-some n.number (sym f))
    go false f k = k f

-- ---- the same parent and name, either way round

abbrev pub beside : SavedNode → SavedNode → Bool
beside d e = eqb d.parent e.parent && same d.name e.name

pub beside_sym : (d e : SavedNode) → beside d e ≡ beside e d
beside_sym d e = rw (eqb_sym d.parent e.parent, same_sym d.name e.name)

-- ---- one more

rises_lower : (low low' high : ℕ) (es : List SavedNode) → low' ≤ low → Rises low es high → Rises low' es high
unfolding Rises
rises_lower low low' high [] l r = omega arith
rises_lower low low' high (e ∷ es) l r = (omega (arith, r.0), r.1)

pub rises_end : (low high : ℕ) (es : List SavedNode) → Rises low es high → low ≤ high
unfolding Rises
rises_end low high [] r = r
rises_end low high (e ∷ es) r = omega (arith, r.0, rises_end (e.number + 1) high es r.1)

rises_more : (low high : ℕ) (es : List SavedNode) (e : SavedNode) → Rises low es high → e.number ≡ high → Rises low (es ++ (e ∷ [])) (high + 1)
unfolding Rises
rises_more low high [] e r q = (omega arith, omega arith)
rises_more low high (d ∷ es) e r q = (r.0, rises_more (d.number + 1) high es e r.1 q)

below_more : (es : List SavedNode) (e : SavedNode) → Below es → 1 ≤ e.parent → e.parent < e.number → Below (es ++ (e ∷ []))
unfolding Below
below_more [] e b l h = (l, h, tt)
below_more (d ∷ es) e b l h = (b.0, b.1, below_more es e b.2 l h)

named_more : (es : List SavedNode) (e : SavedNode) → Named es → good_name e.name ≡ true → Named (es ++ (e ∷ []))
unfolding Named
named_more [] e n g = (g, tt)
named_more (d ∷ es) e n g = (n.0, named_more es e n.1 g)

used_more : (es : List SavedNode) (d e : SavedNode) → used d.parent d.name es ≡ false → beside e d ≡ false → used d.parent d.name (es ++ (e ∷ [])) ≡ false
unfolding used
used_more [] d e u f = rw f
used_more (c ∷ es) d e u f =
    let o = or_neither (beside c d) (used d.parent d.name es) u in
    rw o.0 (used_more es d e o.1 f)

unique_more : (es : List SavedNode) (e : SavedNode) → Unique es → used e.parent e.name es ≡ false → Unique (es ++ (e ∷ []))
unfolding Unique used
unique_more [] e u f = (refl, tt)
unique_more (d ∷ es) e u f =
    let o = or_neither (beside d e) (used e.parent e.name es) f in
    (used_more es d e u.0 (beside_sym e d ∙ o.0), unique_more es e u.1 o.1)

pub shape_more : (es : List SavedNode) (high : ℕ) (e : SavedNode) → Shape es high → e.number ≡ high → used e.parent e.name es ≡ false → good_name e.name ≡ true
    → 1 ≤ e.parent → e.parent < e.number → Shape (es ++ (e ∷ [])) (high + 1)
shape_more es high e s q u g l h = record {
  rises = rises_more 2 high es e s.rises q;
  below = below_more es e s.below l h;
  named = named_more es e s.named g;
  unique = unique_more es e s.unique u;
}

-- ---- one less

used_less : (ns : List Node) (x here : ℕ) (p : List ℕ) → used here p (saved_nodes ns) ≡ false → used here p (saved_nodes (without ns x)) ≡ false
unfolding saved_nodes without used
used_less [] x here p u = refl
used_less (n ∷ ns) x here p u =
    let o = or_neither (eqb n.parent here && same n.name p) (used here p (saved_nodes ns)) u in
    go (eqb n.number x) o.0 o.1 (used_less ns x here p o.1)
  where
    go : (b : Bool) → (eqb n.parent here && same n.name p) ≡ false → used here p (saved_nodes ns) ≡ false → used here p (saved_nodes (without ns x)) ≡ false
        → used here p (saved_nodes (cond b ns (n ∷ without ns x))) ≡ false
    go true f g k = g
    go false f g k = rw (f, k)

rises_less : (low high : ℕ) (ns : List Node) (x : ℕ) → Rises low (saved_nodes ns) high → Rises low (saved_nodes (without ns x)) high
unfolding saved_nodes without Rises
rises_less low high [] x r = r
rises_less low high (n ∷ ns) x r = go (eqb n.number x) (rises_less (n.number + 1) high ns x r.1)
  where
    go : (b : Bool) → Rises (n.number + 1) (saved_nodes (without ns x)) high → Rises low (saved_nodes (cond b ns (n ∷ without ns x))) high
    go true k = rises_lower (n.number + 1) low high (saved_nodes ns) (omega (arith, r.0)) r.1
    go false k = (r.0, k)

below_less : (ns : List Node) (x : ℕ) → Below (saved_nodes ns) → Below (saved_nodes (without ns x))
unfolding saved_nodes without Below
below_less [] x b = b
below_less (n ∷ ns) x b = go (eqb n.number x) (below_less ns x b.2)
  where
    go : (t : Bool) → Below (saved_nodes (without ns x)) → Below (saved_nodes (cond t ns (n ∷ without ns x)))
    go true k = b.2
    go false k = (b.0, b.1, k)

named_less : (ns : List Node) (x : ℕ) → Named (saved_nodes ns) → Named (saved_nodes (without ns x))
unfolding saved_nodes without Named
named_less [] x h = h
named_less (n ∷ ns) x h = go (eqb n.number x) (named_less ns x h.1)
  where
    go : (t : Bool) → Named (saved_nodes (without ns x)) → Named (saved_nodes (cond t ns (n ∷ without ns x)))
    go true k = h.1
    go false k = (h.0, k)

unique_less : (ns : List Node) (x : ℕ) → Unique (saved_nodes ns) → Unique (saved_nodes (without ns x))
unfolding saved_nodes without Unique
unique_less [] x u = u
unique_less (n ∷ ns) x u = go (eqb n.number x) (unique_less ns x u.1)
  where
    go : (t : Bool) → Unique (saved_nodes (without ns x)) → Unique (saved_nodes (cond t ns (n ∷ without ns x)))
    go true k = u.1
    go false k = (used_less ns x n.parent n.name u.0, k)

pub shape_less : (ns : List Node) (x high : ℕ) → Shape (saved_nodes ns) high → Shape (saved_nodes (without ns x)) high
shape_less ns x high s = record {
  rises = rises_less 2 high ns x s.rises;
  below = below_less ns x s.below;
  named = named_less ns x s.named;
  unique = unique_less ns x s.unique;
}

pub length_less : (ns : List Node) (x : ℕ) → length (without ns x) ≤ length ns
unfolding without
length_less [] x = omega arith
length_less (n ∷ ns) x = go (eqb n.number x) (length_less ns x)
  where
    go : (b : Bool) → length (without ns x) ≤ length ns → length (cond b ns (n ∷ without ns x)) ≤ suc (length ns)
    go true k = omega arith
    go false k = omega arith

pub length_mount : (m : Option Mount) (ns : List Node) (x : ℕ) → length (nodes_with_mount m ns x) ≡ length ns
length_mount m ns x = sym (saved_length (nodes_with_mount m ns x)) ∙ (ap length (saved_mount m ns x) ∙ saved_length ns)
