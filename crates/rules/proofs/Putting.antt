-- Mounts put back after a restart, one call: the nodes stay, and no slot changes but that of the index. Assumes nothing.
use mathlib.Core.Path.{◌≡◌, refl, sym, ap, ◌∙◌, subst}
use mathlib.Core.Logic.{⊎_elim}
use mathlib.Core.List.{List, [], append-nil}
use Rattle.std.specs.Prelude.{Option, None, Some}
use Rattle.std.proofs.lemmas.Option.{same_Some, none-some}
use Prim.Native.Nat.{ℕ, ◌≤◌, ◌<◌}
use native.Mathlib.Nat.{add-zero}
use native.Mathlib.Omega.{arith}
use native.Mathlib.Decide.{ℕ_discrete}
use lib.ListN.{length, get_or, length-set, get_or-eq_default}
use lib.Seq.{get_or-set_other}
use Rattle.rules.specs.Numbers.{root_number}
use Rattle.rules.specs.Path.{components}
use Rattle.rules.specs.Tree.{Mount, Made}
use Rattle.rules.specs.Instance.{Slot, Tree, Instance, with_counter, with_tree, empty_slot, held_by, tag_in_slot, tag_of, mount_of_node, set_mount, grown}
use Rattle.rules.specs.Mount.{Request, freed_slots, requested_mount, placed}
use Rattle.rules.specs.Reached.{reached}
use Rattle.rules.specs.StateRestore.{saved_nodes}
use Rattle.rules.specs.Calls.{Call, restore_mount, rule}
use Rattle.rules.specs.claims.Driven.{IsAt, Facts, Rooted}
use Rattle.rules.specs.claims.PutBack.{PutsBack, Aside}
use Rattle.rules.proofs.Tests.{le_or_lt}
use Rattle.rules.proofs.Slots.{freed_slots_lem}
use Rattle.rules.proofs.Turn.{placed_tag}
use Rattle.rules.proofs.Others.{set_same}
use Rattle.rules.proofs.Leads.{path_leads, path_rooted, leads_path, leads_saved}
use Rattle.rules.proofs.Planned.{planned_none}
use Rattle.rules.proofs.Stays.{set_next}
use Rattle.rules.proofs.Found.{Put, restored_put, set_saved, set_there}

-- ---- what holds on the way

-- the nodes and the next number are those of i, and where a mount stands one of the same index stands in i
pub record Along (i : Instance) (t : Tree) (slots : List Slot) : Type 0 where
  pub nodes : saved_nodes t.nodes ≡ saved_nodes i.tree.nodes
  pub next : t.next ≡ i.tree.next
  pub many : length slots ≡ 256
  pub mounts : (y : ℕ) (m : Mount) → mount_of_node t y ≡ Some m → IsAt m.index (mount_of_node i.tree y)

abbrev pub tag_in : List Slot → ℕ → Option ℕ
tag_in slots k = tag_in_slot (get_or slots k empty_slot)

-- ---- a restored mount on a node that is there

grown_none : (t : Tree) → grown [] t ≡ t
grown_none t = λ j. record { next = add-zero t.next j; root = t.root; nodes = append-nil t.nodes j }

put_there : (j : Instance) (r : Request) (k x : ℕ) (a : Instance) (p : Put j r k a) → reached j r.path ≡ Some x → a ≡ placed k r x (with_counter p.counter j)
put_there j r k x a p e =
    p.after
    ∙ ap (λ (m : Made). placed k r m.here (with_tree (grown m.nodes j.tree) (with_counter p.counter j))) (planned_none j r.path x e)
    ∙ ap (λ (t : Tree). placed k r x (with_tree t (with_counter p.counter j))) (grown_none j.tree)

-- a path leads on the way where it leads in i
pub reached_still : (i j : Instance) → Facts i → saved_nodes j.tree.nodes ≡ saved_nodes i.tree.nodes → (path : List ℕ) (x : ℕ) → reached i path ≡ Some x → reached j path ≡ Some x
reached_still i j f e path x h =
    leads_path j i.tree.next (rw e f.tree.shape) path x
    (leads_saved i.tree.nodes j.tree.nodes (sym e) root_number x (components 0 path) (path_leads i i.tree.next f.tree.shape.rises path x h))

one_index : (o : Option Mount) (k q : ℕ) → IsAt k o → IsAt q o → k ≡ q
one_index None k q a b = absurd a
one_index (Some m) k q a b = sym a ∙ b

module _ (i j : Instance) (r : Request) (k x c : ℕ) (w : Rooted j.tree.nodes x) (a : Along i j.tree j.indexes.slots) (stood : IsAt k (mount_of_node i.tree x)) where
  abbrev left : Instance
  left = placed k r x (with_counter c j)

  -- what stood on the node has that index, so no other slot is emptied
  freed_none : (o : Option Mount) → mount_of_node j.tree x ≡ o → (q : ℕ) → (q ≡ k → ⊥) → get_or (freed_slots o j.indexes.slots) q empty_slot ≡ get_or j.indexes.slots q empty_slot
  unfolding freed_slots
  freed_none None e q n = refl
  freed_none (Some m) e q n =
      get_or-set_other j.indexes.slots m.index q empty_slot empty_slot (λ s. n (s ∙ one_index (mount_of_node i.tree x) m.index k (a.mounts x m e) stood))

  others_kept : (q : ℕ) → (q ≡ k → ⊥) → tag_of left q ≡ tag_of j q
  unfolding placed
  others_kept q n =
      ap tag_in_slot (get_or-set_other (freed_slots (mount_of_node j.tree x) j.indexes.slots) k q (held_by r.tag) empty_slot n ∙ freed_none (mount_of_node j.tree x) refl q n)

  mounts_along : (y : ℕ) (m : Mount) → mount_of_node left.tree y ≡ Some m → IsAt m.index (mount_of_node i.tree y)
  unfolding placed
  mounts_along y m e =
      let t = Some (requested_mount k r) in
      elim (ℕ_discrete x y) [
        | yes q ↦
            let s : mount_of_node (set_mount j.tree x t) x ≡ Some m = ap (mount_of_node (set_mount j.tree x t)) q ∙ e in
            let n : m.index ≡ k = ap (λ (o : Mount). o.index) (same_Some m (requested_mount k r) (sym s ∙ set_there j.tree x t w)) in
            rw (n, ← q) stood
        | no n ↦ a.mounts y m (sym (set_same x y n j.tree t) ∙ e)
      ]

  along_left : Along i left.tree left.indexes.slots
  unfolding placed
  along_left = record {
    next = set_next j.tree x (Some (requested_mount k r)) ∙ a.next;
    nodes = set_saved j.tree x (Some (requested_mount k r)) ∙ a.nodes;
    many = length-set (freed_slots (mount_of_node j.tree x) j.indexes.slots) k (held_by r.tag) ∙ (freed_slots_lem (mount_of_node j.tree x) j.indexes.slots ∙ a.many);
    mounts = mounts_along;
  }

-- ---- one call

-- what putting back at k leaves of j
pub record Step (i j left : Instance) (k : ℕ) : Type 0 where
  pub along : Along i left.tree left.indexes.slots
  pub here : tag_of left k ≡ tag_of i k
  pub elsewhere : (q : ℕ) → (q ≡ k → ⊥) → tag_of left q ≡ tag_of j q

tag_low : (slots : List Slot) (k t : ℕ) → tag_in slots k ≡ Some t → k < length slots
tag_low slots k t e =
    ⊎_elim (λ (l : length slots ≤ k). absurd (none-some t (sym (ap tag_in_slot (get_or-eq_default slots empty_slot l)) ∙ e))) (λ (l : k < length slots). l) (le_or_lt (length slots) k)

module _ (i j : Instance) (f : Facts i) (a : Along i j.tree j.indexes.slots) where
  put_step : (r : Request) (k x : ℕ) → reached i r.path ≡ Some x → IsAt k (mount_of_node i.tree x) → tag_of i k ≡ Some r.tag → (rule j (restore_mount k r)).code ≡ 0
      → Step i j (rule j (restore_mount k r)).after k
  put_step r k x e s t z =
      let p = (restored_put j r k z).1 in
      let h = reached_still i j f a.nodes r.path x e in
      let w = path_rooted j i.tree.next (rw a.nodes f.tree.shape.rises) r.path x h in
      let low : k < length j.indexes.slots = omega (arith, tag_low i.indexes.slots k r.tag t, f.mounts.slots, a.many) in
      subst (λ (b : Instance). Step i j b k) (sym (put_there j r k x _ p h)) (record {
        along = along_left i j r k x p.counter w a s;
        here = placed_tag k r x (with_counter p.counter j) low ∙ sym t;
        elsewhere = others_kept i j r k x p.counter w a s;
      })

  pub back_step : (c : Call) (k : ℕ) → PutsBack i j c k → Step i j (rule j c).after k
  back_step c k b =
      subst (λ (d : Call). (rule j d).code ≡ 0 → Step i j (rule j d).after k) (sym b.call) (put_step b.request k b.node b.leads b.stood b.tag) b.done

  pub aside_along : (c : Call) → Aside j c → Along i (rule j c).after.tree (rule j c).after.indexes.slots
  aside_along c s = rw (s.tree, s.slots) a
