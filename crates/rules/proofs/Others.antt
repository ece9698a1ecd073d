-- The mounts of other nodes stay, over every call. Assumes nothing.
use mathlib.Core.Path.{◌≡◌, refl, sym, ap, ◌∙◌}
use mathlib.Core.Bool.{Bool, true, false, cond, not, ◌&&◌}
use mathlib.Core.List.{List, [], ◌∷◌, ◌++◌}
use Rattle.std.specs.Prelude.{Option, None, Some}
use Prim.Native.Nat.{ℕ}
use native.Mathlib.Decide.{ℕ_discrete}
use lib.Dec.{eqb}
use borrow.Author.Tests.{eqb-true, ne_eqb}
use Rattle.rules.specs.Numbers.{root_number}
use Rattle.rules.specs.Tree.{Mount, Node, bare, node_in, with_mount, nodes_with_mount, without}
use Rattle.rules.specs.Instance.{Tree, Instance, mount_of_found, mount_of_node, set_mount, grown, cut}
use Rattle.rules.specs.Outcome.{Outcome, nothing, says}
use Rattle.rules.specs.Mount.{Request, planned, requested_mount, placed, allocation, ended, mount_by_index, restore_mount_by_index}
use Rattle.rules.specs.Reached.{reached}
use Rattle.rules.specs.Unmount.{taken, unmounts}
use Rattle.rules.specs.Saved.{SavedNode, state_of}
use Rattle.rules.specs.StateRestore.{nodes_of_records, fresh, state_restored_to}
use Rattle.rules.specs.Calls.{mount, restore_mount, umount, restore_from_bytes}
use Rattle.rules.specs.claims.Stays.{MountAfter, same_mount, by_mount, by_restored, by_unmount, EveryMountOn}
use Rattle.rules.proofs.Rows.{each_of, either}
use Rattle.rules.proofs.Driven.{fresh_bare}
use Rattle.rules.proofs.Walk.{planned_all}
use Rattle.rules.proofs.Ways.{every_call}

-- the mount on the first node of a number, or none
abbrev pub on : List Node → ℕ → Option Mount
on ns y = mount_of_found (node_in ns y)

-- ---- lists of nodes

module _ (x y : ℕ) (apart : x ≡ y → ⊥) where
  -- a node of the number x is none of the number y
  other : (n : Node) → eqb n.number x ≡ true → eqb n.number y ≡ false
  other n e = ne_eqb n.number y (λ q. apart (sym (eqb-true n.number x e) ∙ q))

  pub node_mounted : (m : Option Mount) (ns : List Node) → node_in (nodes_with_mount m ns x) y ≡ node_in ns y
  unfolding node_in nodes_with_mount
  node_mounted m [] = refl
  node_mounted m (n ∷ ns) = go (eqb n.number x) refl (node_mounted m ns)
    where
      go : (b : Bool) → eqb n.number x ≡ b → node_in (nodes_with_mount m ns x) y ≡ node_in ns y → node_in (cond b (with_mount m n ∷ ns) (n ∷ nodes_with_mount m ns x)) y ≡ node_in (n ∷ ns) y
      go true e k = rw (other n e)
      go false e k = rw k

  pub node_without : (ns : List Node) → node_in (without ns x) y ≡ node_in ns y
  unfolding node_in without
  node_without [] = refl
  node_without (n ∷ ns) = go (eqb n.number x) refl (node_without ns)
    where
      go : (b : Bool) → eqb n.number x ≡ b → node_in (without ns x) y ≡ node_in ns y → node_in (cond b ns (n ∷ without ns x)) y ≡ node_in (n ∷ ns) y
      go true e k = rw (other n e)
      go false e k = rw k

behind_first : (b : Bool) (n : Node) (p q : Option Node) → mount_of_found p ≡ mount_of_found q → mount_of_found (cond b (Some n) p) ≡ mount_of_found (cond b (Some n) q)
behind_first true n p q e = refl
behind_first false n p q e = e

-- a new node has no mount
on_more : (ns : List Node) (n : Node) (y : ℕ) → n.mount ≡ None → on (ns ++ (n ∷ [])) y ≡ on ns y
unfolding node_in
on_more [] n y e = go (eqb n.number y)
  where
    go : (b : Bool) → mount_of_found (cond b (Some n) None) ≡ None
    go true = e
    go false = refl
on_more (m ∷ ns) n y e = behind_first (eqb m.number y) m _ _ (on_more ns n y e)

-- ---- trees

-- by the mounts on the nodes
pub of_nodes : (r : Option Mount) (y : ℕ) (p q : Option Mount) → p ≡ q → cond (eqb y root_number) r p ≡ cond (eqb y root_number) r q
of_nodes r y p q e = rw e

grown_same : (t : Tree) (path : List ℕ) (y : ℕ) → mount_of_node (grown (planned t path).nodes t) y ≡ mount_of_node t y
unfolding mount_of_node
grown_same t path y = of_nodes t.root y _ _ (planned_all (λ (ns : List Node). on ns y ≡ on t.nodes y) t (λ ns n l m e. on_more ns n y m ∙ e) path refl)

module _ (x y : ℕ) (apart : x ≡ y → ⊥) where
  pub set_same : (t : Tree) (m : Option Mount) → mount_of_node (set_mount t x m) y ≡ mount_of_node t y
  unfolding mount_of_node set_mount
  set_same t m = go (eqb x root_number) refl
    where
      go : (b : Bool) → eqb x root_number ≡ b
          → mount_of_node (cond b (record { next = t.next; root = m; nodes = t.nodes }) (record { next = t.next; root = t.root; nodes = nodes_with_mount m t.nodes x })) y ≡ mount_of_node t y
      go true e = rw (ne_eqb y root_number (λ q. apart (eqb-true x root_number e ∙ sym q)))
      go false e = of_nodes t.root y _ _ (ap mount_of_found (node_mounted x y apart m t.nodes))

  cut_same : (t : Tree) → mount_of_node (cut x t) y ≡ mount_of_node t y
  unfolding mount_of_node
  cut_same t = of_nodes t.root y _ _ (ap mount_of_found (node_without x y apart t.nodes))

  taken_same : (i : Instance) → mount_of_node (taken i x) y ≡ mount_of_node i.tree y
  unfolding taken
  taken_same i =
      let s = set_same i.tree None in
      either (λ (t : Tree). mount_of_node t y ≡ mount_of_node i.tree y) (i.removal && not (eqb x root_number)) (λ e. cut_same (set_mount i.tree x None) ∙ s) (λ e. s)

-- ---- calls

-- another node than the one that a mount was placed on
placed_same : (k : ℕ) (r : Request) (x : ℕ) (i : Instance) (y : ℕ) → (x ≡ y → ⊥) → mount_of_node (placed k r x i).tree y ≡ mount_of_node i.tree y
unfolding placed
placed_same k r x i y n = set_same x y n i.tree (Some (requested_mount k r))

mount_as : (i : Instance) (r : Request) (k : Option ℕ) (y : ℕ) → MountAfter i (mount r) (mount_by_index i r k) y
unfolding mount_by_index
mount_as i r None y = same_mount refl
mount_as i r (Some k) y =
    let w = grown_same i.tree r.path y in
    each_of (λ (o : Outcome). MountAfter i (mount r) o y) _ _ (
      same_mount refl,
      (
        same_mount w,
        elim (ℕ_discrete (ended i r.path) y) [
          | yes e ↦ by_mount r refl refl (sym e)
          | no n ↦ same_mount (placed_same _ _ _ _ y n ∙ w)
        ],
      ),
    )

restored_as : (i : Instance) (k : ℕ) (r : Request) (y : ℕ) → MountAfter i (restore_mount k r) (restore_mount_by_index i k r) y
unfolding restore_mount_by_index
restored_as i k r y =
    let w = grown_same i.tree r.path y in
    each_of (λ (o : Outcome). MountAfter i (restore_mount k r) o y) _ _ (
      same_mount w,
      elim (ℕ_discrete (ended i r.path) y) [
        | yes e ↦ by_restored k r refl refl (sym e)
        | no n ↦ same_mount (placed_same _ _ _ _ y n ∙ w)
      ],
    )

unmounted : (i : Instance) (path : List ℕ) (x : ℕ) (m : Mount) → reached i path ≡ Some x → (y : ℕ) → MountAfter i (umount path) (unmounts i x m) y
unfolding unmounts
unmounted i path x m q y =
    elim (ℕ_discrete x y) [ yes e ↦ by_unmount path refl refl (q ∙ ap {B = Option ℕ} Some e) | no n ↦ same_mount (taken_same x y n i) ]

pub bare_nodes : (es : List SavedNode) (y : ℕ) → on (nodes_of_records es) y ≡ None
unfolding nodes_of_records node_in
bare_nodes [] y = refl
bare_nodes (e ∷ es) y = go (eqb e.number y) (bare_nodes es y)
  where
    go : (b : Bool) → on (nodes_of_records es) y ≡ None → mount_of_found (cond b (Some (bare e.number e.parent e.name)) (node_in (nodes_of_records es) y)) ≡ None
    go true k = refl
    go false k = k

state_restored : (i : Instance) (b : List ℕ) → fresh i ≡ true → (y : ℕ) → MountAfter i (restore_from_bytes b) (says nothing (state_restored_to (state_of b) i)) y
unfolding state_restored_to mount_of_node node_in
state_restored i b a y =
    let f = fresh_bare i a in
    same_mount (rw (f.0, f.1) (of_nodes None y _ _ (bare_nodes (state_of b).nodes y)))

-- the theorem
pub every_mount_on : EveryMountOn
every_mount_on = every_call (λ i c o. (y : ℕ) → MountAfter i c o y) (record {
  still = λ i c o q s y. same_mount (ap (λ (j : Instance). mount_of_node j.tree y) s.after);
  early = λ i c code e y. same_mount refl;
  mounts = λ i r p. mount_as i r (allocation i).found;
  restores_mount = λ i k r p on. restored_as i k r;
  unmounted = λ i path x m q e. unmounted i path x m q;
  sets_removal = λ i y. same_mount refl;
  state_restored = λ i b ok. state_restored i b ok.is_fresh;
})
