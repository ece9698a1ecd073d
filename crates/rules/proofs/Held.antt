-- Every held slot has a mount, kept by what changes slots and mounts. Assumes nothing.
use mathlib.Core.Path.{◌≡◌, refl, sym, ap, ◌∙◌}
use mathlib.Core.Bool.{Bool, true, false, cond, not, ◌&&◌, true≢false}
use mathlib.Core.Logic.{◌⊎◌, inl, inr, ⊎_elim}
use mathlib.Core.List.{List, [], ◌∷◌, ◌++◌}
use Rattle.std.specs.Prelude.{Option, None, Some}
use Rattle.std.proofs.lemmas.Option.{none-some}
use Prim.Native.Nat.{ℕ}
use native.Mathlib.Decide.{ℕ_discrete}
use lib.ListN.{get_or, set}
use lib.Seq.{get_or-set_other}
use lib.Dec.{eqb}
use borrow.Author.Tests.{eqb-true, eqb-false}
use Rattle.rules.specs.Numbers.{root_number}
use Rattle.rules.specs.Tree.{Mount, Node, node_in, with_mount, nodes_with_mount, without}
use Rattle.rules.specs.Instance.{Slot, Tree, Instance, empty_slot, held_by, held_in, with_slot, with_tree, mount_of_found, mount_of_node, set_mount, grown, cut}
use Rattle.rules.specs.Mount.{Request, freed_slots, freed, requested_mount, placed}
use Rattle.rules.specs.Unmount.{taken}
use Rattle.rules.specs.claims.Driven.{IsAt, MountIn, Mounted, Rooted}
use Rattle.rules.proofs.Walk.{reached_live}
use Rattle.rules.proofs.Slots.{emptied_slot}

abbrev pub Held : Instance → Type 0
Held i = (q : ℕ) → held_in i q ≡ true → Mounted q i.tree

-- ---- slots

-- one that is held after another was freed was held before
held_before : (slots : List Slot) (k q : ℕ) → (get_or (set slots k empty_slot) q empty_slot).held ≡ true → (q ≡ k → ⊥) × ((get_or slots q empty_slot).held ≡ true)
held_before slots k q h =
    elim (ℕ_discrete q k) [
      | yes e ↦ absurd (true≢false (sym h ∙ (ap (λ (x : ℕ). (get_or (set slots k empty_slot) x empty_slot).held) e ∙ ap (λ (s : Slot). s.held) (emptied_slot slots k))))
      | no e ↦ (e, sym (ap (λ (s : Slot). s.held) (get_or-set_other slots k q empty_slot empty_slot e)) ∙ h)
    ]

-- ---- mounts on nodes

-- another index's mount stays where the mount of a node is set
mount_kept : (q : ℕ) (m : Option Mount) (ns : List Node) (x : ℕ) → MountIn q ns → (IsAt q (mount_of_found (node_in ns x)) → ⊥) → MountIn q (nodes_with_mount m ns x)
unfolding MountIn nodes_with_mount node_in
mount_kept q m [] x h a = h
mount_kept q m (n ∷ ns) x h a = go (eqb n.number x) h a (mount_kept q m ns x)
  where
    go : (b : Bool) → IsAt q n.mount ⊎ MountIn q ns → (IsAt q (mount_of_found (cond b (Some n) (node_in ns x))) → ⊥)
        → (MountIn q ns → (IsAt q (mount_of_found (node_in ns x)) → ⊥) → MountIn q (nodes_with_mount m ns x)) → MountIn q (cond b (with_mount m n ∷ ns) (n ∷ nodes_with_mount m ns x))
    go true (inl w) f k = absurd (f w)
    go true (inr w) f k = inr w
    go false (inl w) f k = inl w
    go false (inr w) f k = inr (k w f)

-- and where a node is taken out
mount_left : (q : ℕ) (ns : List Node) (x : ℕ) → MountIn q ns → (IsAt q (mount_of_found (node_in ns x)) → ⊥) → MountIn q (without ns x)
unfolding MountIn without node_in
mount_left q [] x h a = h
mount_left q (n ∷ ns) x h a = go (eqb n.number x) h a (mount_left q ns x)
  where
    go : (b : Bool) → IsAt q n.mount ⊎ MountIn q ns → (IsAt q (mount_of_found (cond b (Some n) (node_in ns x))) → ⊥)
        → (MountIn q ns → (IsAt q (mount_of_found (node_in ns x)) → ⊥) → MountIn q (without ns x)) → MountIn q (cond b ns (n ∷ without ns x))
    go true (inl w) f k = absurd (f w)
    go true (inr w) f k = w
    go false (inl w) f k = inl w
    go false (inr w) f k = inr (k w f)

-- a node that is there has the mount that is set
mount_set : (m : Mount) (ns : List Node) (x : ℕ) (n : Node) → node_in ns x ≡ Some n → MountIn m.index (nodes_with_mount (Some m) ns x)
unfolding MountIn nodes_with_mount node_in
mount_set m [] x n e = absurd (none-some n e)
mount_set m (o ∷ ns) x n e = go (eqb o.number x) e (mount_set m ns x n)
  where
    go : (b : Bool) → cond b (Some o) (node_in ns x) ≡ Some n → (node_in ns x ≡ Some n → MountIn m.index (nodes_with_mount (Some m) ns x))
        → MountIn m.index (cond b (with_mount (Some m) o ∷ ns) (o ∷ nodes_with_mount (Some m) ns x))
    go true f k = inl refl
    go false f k = inr (k f)

mount_gone : (q : ℕ) (ns : List Node) (x : ℕ) → IsAt q (mount_of_found (node_in (nodes_with_mount None ns x) x)) → ⊥
unfolding nodes_with_mount node_in
mount_gone q [] x h = h
mount_gone q (n ∷ ns) x h = go (eqb n.number x) refl h (mount_gone q ns x)
  where
    go : (b : Bool) → eqb n.number x ≡ b → IsAt q (mount_of_found (node_in (cond b (with_mount None n ∷ ns) (n ∷ nodes_with_mount None ns x)) x)) → (IsAt q (mount_of_found (node_in (nodes_with_mount None ns x) x)) → ⊥) → ⊥
    go true e w k = rw e at w
    go false e w k = k (rw e at w)

-- ---- the same of the tree

tree_kept : (q : ℕ) (m : Option Mount) (t : Tree) (x : ℕ) → Mounted q t → (IsAt q (mount_of_node t x) → ⊥) → Mounted q (set_mount t x m)
unfolding mount_of_node set_mount
tree_kept q m t x h a = go (eqb x root_number) h a
  where
    go : (b : Bool) → IsAt q t.root ⊎ MountIn q t.nodes → (IsAt q (cond b t.root (mount_of_found (node_in t.nodes x))) → ⊥)
        → Mounted q (cond b (record { next = t.next; root = m; nodes = t.nodes }) (record { next = t.next; root = t.root; nodes = nodes_with_mount m t.nodes x }))
    go true (inl w) f = absurd (f w)
    go true (inr w) f = inr w
    go false (inl w) f = inl w
    go false (inr w) f = inr (mount_kept q m t.nodes x w f)

tree_set : (m : Mount) (t : Tree) (x : ℕ) → Rooted t.nodes x → Mounted m.index (set_mount t x (Some m))
unfolding set_mount
tree_set m t x r = go (eqb x root_number) refl (reached_live t.nodes x r)
  where
    go : (b : Bool) → eqb x root_number ≡ b → (x ≡ root_number) ⊎ ((n : Node) × (node_in t.nodes x ≡ Some n))
        → Mounted m.index (cond b (record { next = t.next; root = Some m; nodes = t.nodes }) (record { next = t.next; root = t.root; nodes = nodes_with_mount (Some m) t.nodes x }))
    go true e w = inl refl
    go false e (inl w) = absurd (eqb-false x root_number e w)
    go false e (inr (n, f)) = inr (mount_set m t.nodes x n f)

tree_cut : (q : ℕ) (t : Tree) (x : ℕ) → (x ≡ root_number → ⊥) → Mounted q (set_mount t x None) → Mounted q (cut x (set_mount t x None))
unfolding set_mount
tree_cut q t x r = go (eqb x root_number) refl
  where
    left : MountIn q (nodes_with_mount None t.nodes x) → MountIn q (without (nodes_with_mount None t.nodes x) x)
    left w = mount_left q (nodes_with_mount None t.nodes x) x w (mount_gone q t.nodes x)

    go : (b : Bool) → eqb x root_number ≡ b
        → Mounted q (cond b (record { next = t.next; root = None; nodes = t.nodes }) (record { next = t.next; root = t.root; nodes = nodes_with_mount None t.nodes x }))
        → Mounted q (cut x (cond b (record { next = t.next; root = None; nodes = t.nodes }) (record { next = t.next; root = t.root; nodes = nodes_with_mount None t.nodes x })))
    go true e w = absurd (r (eqb-true x root_number e))
    go false e (inl w) = inl w
    go false e (inr w) = inr (left w)

-- ---- nodes made, a mount placed, a mount taken off

mounts_append : (q : ℕ) (ns ms : List Node) → MountIn q ns → MountIn q (ns ++ ms)
unfolding MountIn
mounts_append q [] ms h = absurd h
mounts_append q (n ∷ ns) ms (inl h) = inl h
mounts_append q (n ∷ ns) ms (inr h) = inr (mounts_append q ns ms h)

pub held_grown : (i : Instance) (ms : List Node) → Held i → Held (with_tree (grown ms i.tree) i)
held_grown i ms h q e = ⊎_elim (λ w. inl w) (λ w. inr (mounts_append q i.tree.nodes ms w)) (h q e)

-- what is held once a mount's index is freed has another mount
held_freed : (m : Option Mount) (i : Instance) → Held i → (q : ℕ) → held_in (freed m i) q ≡ true → Mounted q i.tree × (IsAt q m → ⊥)
unfolding freed_slots
held_freed None i h q e = (h q e, λ w. w)
held_freed (Some m) i h q e =
    let b = held_before i.indexes.slots m.index q e in
    (h q b.1, λ w. b.0 (sym w))

pub held_placed : (k : ℕ) (r : Request) (x : ℕ) (i : Instance) → Rooted i.tree.nodes x → Held i → Held (placed k r x i)
unfolding placed
held_placed k r x i w h q e =
    let old = mount_of_node i.tree x in
    let j = freed old i in
    elim (ℕ_discrete q k) [
      | yes s ↦ rw s (tree_set (requested_mount k r) i.tree x w)
      | no s ↦
          let b = held_freed old i h q (sym (ap (λ (z : Slot). z.held) (get_or-set_other j.indexes.slots k q (held_by r.tag) empty_slot s)) ∙ e) in
          tree_kept q (Some (requested_mount k r)) i.tree x b.0 b.1
    ]

pub held_taken : (i : Instance) (x : ℕ) (m : Mount) → mount_of_node i.tree x ≡ Some m → Held i → Held (with_slot m.index empty_slot (with_tree (taken i x) i))
unfolding taken
held_taken i x m s h q e =
    let b = held_before i.indexes.slots m.index q e in
    let apart : IsAt q (mount_of_node i.tree x) → ⊥ = rw s (λ w. b.0 (sym w)) in
    go i.removal (eqb x root_number) refl (tree_kept q None i.tree x (h q b.1) apart)
  where
    go : (d t : Bool) → eqb x root_number ≡ t → Mounted q (set_mount i.tree x None) → Mounted q (cond (d && not t) (cut x (set_mount i.tree x None)) (set_mount i.tree x None))
    go true true f w = w
    go true false f w = tree_cut q i.tree x (eqb-false x root_number f) w
    go false t f w = w
