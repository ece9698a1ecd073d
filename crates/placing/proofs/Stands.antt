-- What placing a mount and taking it off mean by the rules, and that they keep the layout rule. Assumes nothing.
use mathlib.Core.Path.{◌≡◌, refl, ap, ◌∙◌}
use mathlib.Core.Bool.{Bool, true, false, cond, not, ◌&&◌}
use mathlib.Core.List.{List}
use Rattle.std.specs.Prelude.{Option, None, Some}
use Prim.Native.Nat.{ℕ, ◌^◌, ◌<◌}
use native.Mathlib.Omega.{arith}
use lib.Dec.{eqb}
use Rattle.rules.specs.Numbers.{root_number}
use Rattle.rules.specs.Tree.{Mount}
use Rattle.rules.specs.Instance.{Tree, Instance, empty_slot, held_by, mount_of_node, set_mount, with_slot, with_tree, cut}
use Rattle.rules.specs.Mount.{Request, requested_mount, freed_slots, freed, placed}
use Rattle.rules.specs.Unmount.{taken}
use Rattle.tables.specs.Layout.{removal_field}
use Rattle.tables.specs.View.{flag, head_of, nodes_of, view}
use Rattle.tables.specs.Laid.{laid}
use Rattle.tables.specs.Write.{MountFits}
use Rattle.tables.specs.Answer.{node_mount_mem, remove_mem}
use Rattle.tables.proofs.Refine.{view_slot}
use Rattle.tables.proofs.RowOf.{view_mount, view_gone}
use Rattle.tables.proofs.Keeps.{laid_long, laid_is, keeps_slot, keeps_mount, keeps_gone}
use Rattle.placing.specs.Place.{freed_mem, place_mem, out_mem, take_off_mem, InSlots}

module _ (mem : List ℕ) (e : laid mem ≡ true) where
  pub view_freed : (m : Option Mount) → InSlots m → view (freed_mem m mem) ≡ freed m (view mem)
  unfolding freed_mem freed_slots
  view_freed None h = refl
  view_freed (Some m) h = view_slot m.index h false 0 mem (omega arith) (laid_long mem e)

  pub keeps_freed : (m : Option Mount) → laid (freed_mem m mem) ≡ true
  unfolding freed_mem
  keeps_freed None = e
  keeps_freed (Some m) = keeps_slot mem e m.index false 0

  -- a mount that is placed
  module _ (k : ℕ) (r : Request) (x : ℕ) (f : MountFits (requested_mount k r)) (t : r.tag < 2 ^ 32) (h : InSlots (mount_of_node (view mem).tree x)) where
    abbrev old : Option Mount
    old = mount_of_node (view mem).tree x

    abbrev m₁ : List ℕ
    m₁ = freed_mem old mem

    abbrev m₂ : List ℕ
    m₂ = node_mount_mem (nodes_of m₁) (Some (requested_mount k r)) x m₁

    keeps₁ : laid m₁ ≡ true
    keeps₁ = keeps_freed old

    keeps₂ : laid m₂ ≡ true
    keeps₂ = keeps_mount m₁ keeps₁ (Some (requested_mount k r)) x

    pub view_placed : view (place_mem (requested_mount k r) r.tag x mem) ≡ placed k r x (view mem)
    unfolding place_mem placed
    view_placed =
        view_slot k (omega (arith, f.few)) true r.tag m₂ t (laid_long m₂ keeps₂)
        ∙ ap (with_slot k (held_by r.tag))
        (view_mount m₁ (laid_is m₁ keeps₁) x (Some (requested_mount k r)) f ∙ ap (λ (i : Instance). with_tree (set_mount i.tree x (Some (requested_mount k r))) i) (view_freed old h))

    pub keeps_placed : laid (place_mem (requested_mount k r) r.tag x mem) ≡ true
    unfolding place_mem
    keeps_placed = keeps_slot m₂ keeps₂ k true r.tag

-- ---- taken off

module _ (x : ℕ) (mem : List ℕ) (e : laid mem ≡ true) where
  view_out : view (out_mem x mem) ≡ cond ((view mem).removal && not (eqb x root_number)) (with_tree (cut x (view mem).tree) (view mem)) (view mem)
  unfolding out_mem view
  view_out = go (flag removal_field (head_of mem) && not (eqb x root_number))
    where
      go : (b : Bool) → view (cond b (remove_mem (nodes_of mem) x mem) mem) ≡ cond b (with_tree (cut x (view mem).tree) (view mem)) (view mem)
      go true = view_gone mem (laid_is mem e) x
      go false = refl

  pub keeps_out : laid (out_mem x mem) ≡ true
  unfolding out_mem
  keeps_out = go (flag removal_field (head_of mem) && not (eqb x root_number))
    where
      go : (b : Bool) → laid (cond b (remove_mem (nodes_of mem) x mem) mem) ≡ true
      go true = keeps_gone mem e x
      go false = e

module _ (x : ℕ) (m : Mount) (mem : List ℕ) (e : laid mem ≡ true) (h : m.index < 256) where
  abbrev c₁ : List ℕ
  c₁ = node_mount_mem (nodes_of mem) None x mem

  cleared : laid c₁ ≡ true
  cleared = keeps_mount mem e None x

  pub view_taken_off : view (take_off_mem m x mem) ≡ with_slot m.index empty_slot (with_tree (taken (view mem) x) (view mem))
  unfolding take_off_mem taken
  view_taken_off =
      let v : view c₁ ≡ with_tree (set_mount (view mem).tree x None) (view mem) = view_mount mem (laid_is mem e) x None tt in
      let o : view (out_mem x c₁) ≡ with_tree (cond ((view mem).removal && not (eqb x root_number)) (cut x (set_mount (view mem).tree x None)) (set_mount (view mem).tree x None)) (view mem) =
      view_out x c₁ cleared ∙ (ap (λ (i : Instance). cond (i.removal && not (eqb x root_number)) (with_tree (cut x i.tree) i) i) v ∙ go ((view mem).removal && not (eqb x root_number))) in
      view_slot m.index h false 0 (out_mem x c₁) (omega arith) (laid_long (out_mem x c₁) (keeps_out x c₁ cleared)) ∙ ap (with_slot m.index empty_slot) o
    where
      t : Tree
      t = set_mount (view mem).tree x None

      go : (b : Bool) → cond b (with_tree (cut x t) (view mem)) (with_tree t (view mem)) ≡ with_tree (cond b (cut x t) t) (view mem)
      go true = refl
      go false = refl

  pub keeps_taken_off : laid (take_off_mem m x mem) ≡ true
  unfolding take_off_mem
  keeps_taken_off = keeps_slot (out_mem x c₁) (keeps_out x c₁ cleared) m.index false 0
