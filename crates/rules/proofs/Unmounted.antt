-- A done unmount takes its mount off, and its node out exactly if the flag is set and it is not the root; the others stay. Assumes nothing.
use mathlib.Core.Path.{◌≡◌, refl, sym, ◌∙◌, subst}
use mathlib.Core.Bool.{Bool, true, false, cond, not, ◌&&◌, true≢false, false≢true}
use mathlib.Core.Logic.{◌⊎◌, inl, inr}
use mathlib.Core.List.{List, [], ◌∷◌}
use Rattle.std.specs.Prelude.{Option, None, Some}
use Prim.Native.Nat.{ℕ, ◌+◌, ◌<◌}
use native.Mathlib.Omega.{arith}
use lib.Dec.{eqb}
use borrow.Author.Tests.{eqb-true, eqb-false, ne_eqb}
use Rattle.rules.specs.Numbers.{root_number}
use Rattle.rules.specs.Tree.{Mount, Node, node_in, is_known, without}
use Rattle.rules.specs.Instance.{Tree, Instance, mount_of_node, set_mount, cut}
use Rattle.rules.specs.Outcome.{Outcome}
use Rattle.rules.specs.Reached.{reached, reached_mount}
use Rattle.rules.specs.Unmount.{taken, unmounts, unmount_at, unmount_rule}
use Rattle.rules.specs.StateRestore.{saved_nodes}
use Rattle.rules.specs.Calls.{umount, rule}
use Rattle.rules.specs.claims.Driven.{Rises, Rooted}
use Rattle.rules.specs.claims.Found.{Unmounted, EveryUnmounted}
use Rattle.rules.proofs.Rows.{first_of_lem, either}
use Rattle.rules.proofs.Walk.{reached_live}
use Rattle.rules.proofs.Driven.{facts, reached_rooted}
use Rattle.rules.proofs.Others.{node_mounted, node_without}
use Rattle.rules.proofs.Found.{set_saved, node_set, set_there}

-- ---- lists of nodes

-- no node has a number below all of theirs
node_below : (ns : List Node) (low high x : ℕ) → Rises low (saved_nodes ns) high → x < low → node_in ns x ≡ None
unfolding node_in saved_nodes Rises
node_below [] low high x r l = refl
node_below (n ∷ ns) low high x r l = rw (ne_eqb n.number x (λ q. omega (arith, r.0))) (node_below ns (n.number + 1) high x r.1 (omega (arith, r.0)))

-- a node that was taken out is gone
node_gone : (ns : List Node) (low high x : ℕ) → Rises low (saved_nodes ns) high → node_in (without ns x) x ≡ None
unfolding node_in without saved_nodes Rises
node_gone [] low high x r = refl
node_gone (n ∷ ns) low high x r = go (eqb n.number x) refl (node_gone ns (n.number + 1) high x r.1)
  where
    go : (b : Bool) → eqb n.number x ≡ b → node_in (without ns x) x ≡ None → node_in (cond b ns (n ∷ without ns x)) x ≡ None
    go true q k = node_below ns (n.number + 1) high x r.1 (omega (arith, eqb-true n.number x q))
    go false q k = rw q k

other_set : (x y : ℕ) → (x ≡ y → ⊥) → (t : Tree) (m : Option Mount) → node_in (set_mount t x m).nodes y ≡ node_in t.nodes y
unfolding set_mount
other_set x y n t m = either (λ (u : Tree). node_in u.nodes y ≡ node_in t.nodes y) (eqb x root_number) (λ e. refl) (λ e. node_mounted x y n m t.nodes)

-- ---- the tree that is left

module _ (i : Instance) (x : ℕ) (high : ℕ) (r : Rises 2 (saved_nodes i.tree.nodes) high) (w : Rooted i.tree.nodes x) where
  abbrev off : Tree
  off = set_mount i.tree x None

  rises_off : Rises 2 (saved_nodes off.nodes) high
  rises_off = rw (set_saved i.tree x None) r

  -- on the node itself: known and without a mount, or taken out
  known_off : is_known off.nodes x ≡ true
  unfolding is_known set_mount
  known_off = go (eqb x root_number) refl (reached_live i.tree.nodes x w)
    where
      go : (b : Bool) → eqb x root_number ≡ b → (x ≡ root_number) ⊎ ((n : Node) × (node_in i.tree.nodes x ≡ Some n)) → is_known off.nodes x ≡ true
      go true e k = rw e
      go false e (inl q) = absurd (eqb-false x root_number e q)
      go false e (inr (n, q)) = rw (e, node_set None i.tree.nodes x n q)

  left : Unmounted i (taken i x) x
  unfolding taken is_known mount_of_node
  left = go i.removal refl (eqb x root_number) refl
    where
      go : (a : Bool) → i.removal ≡ a → (b : Bool) → eqb x root_number ≡ b → Unmounted i (cond (a && not b) (cut x off) off) x
      go true p true q = record {
        out = (λ e. absurd (true≢false (sym known_off ∙ e)), λ h. absurd (h.1 (eqb-true x root_number q)));
        bare = set_there i.tree x None w;
        others = λ y n. other_set x y n i.tree None;
        all = λ e. set_saved i.tree x None;
      }
      go true p false q = record {
        out = (λ e. (p, eqb-false x root_number q), λ h. rw (q, node_gone off.nodes 2 high x rises_off));
        bare = rw (q, node_gone off.nodes 2 high x rises_off);
        others = λ y n. node_without x y n off.nodes ∙ other_set x y n i.tree None;
        all = λ e. absurd (true≢false (sym p ∙ e));
      }
      go false p b q = record {
        out = (λ e. absurd (true≢false (sym known_off ∙ e)), λ h. absurd (false≢true (sym p ∙ h.0)));
        bare = set_there i.tree x None w;
        others = λ y n. other_set x y n i.tree None;
        all = λ e. set_saved i.tree x None;
      }

-- ---- the call

module _ (i : Instance) (path : List ℕ) where
  abbrev TakesOff : Outcome → Type 0
  TakesOff o = o.code ≡ 0 → (x : ℕ) × (reached i path ≡ Some x) × (o.after.tree ≡ taken i x)

  takes_at : (y : Option ℕ) (m : Option Mount) → reached i path ≡ y → TakesOff (unmount_at i y m)
  unfolding unmount_at unmounts
  takes_at None m e = λ z. absurd (omega arith)
  takes_at (Some x) None e = λ z. absurd (omega arith)
  takes_at (Some x) (Some m) e = λ z. (x, e, refl)

  takes_off : TakesOff (rule i (umount path))
  unfolding rule unmount_rule
  takes_off = first_of_lem TakesOff _ _ (λ a z. absurd (omega arith), λ a. takes_at (reached i path) (reached_mount i (reached i path)) refl)

-- the theorem
pub every_unmounted : EveryUnmounted
every_unmounted i d path z =
    let w = takes_off i path z in
    let x = w.0 in
    (x, w.1, subst (λ (t : Tree). Unmounted i t x) (sym w.2) (left i x i.tree.next (facts i d).tree.shape.rises (reached_rooted i d path x w.1)))
