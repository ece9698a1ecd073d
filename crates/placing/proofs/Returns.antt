-- What each way through the functions gives. Assumes nothing.
use mathlib.Core.Path.{◌≡◌, refl, sym, ap, ◌∙◌, subst}
use mathlib.Core.Bool.{Bool, true, false, cond, not}
use mathlib.Core.List.{List, [], ◌∷◌}
use Rattle.std.specs.Prelude.{Option, None, Some}
use Rattle.std.proofs.lemmas.Option.{none-some}
use Prim.Native.Nat.{ℕ, ◌<◌}
use lib.Dec.{eqb}
use borrow.Author.Tests.{not-true, not-false}
use Rattle.rules.specs.Numbers.{root_number}
use Rattle.rules.specs.Tree.{Mount, Node, nodes_with_mount, with_mount}
use Rattle.rules.specs.Instance.{Tree, Instance, tag_in_slot, tag_of, mount_of_node, set_mount}
use Rattle.rules.specs.Mount.{tag_at}
use Rattle.tables.specs.View.{flag, head_of, slot_at, nodes_of, view}
use Rattle.tables.specs.Laid.{laid}
use Rattle.tables.specs.Write.{set_slot, remove_row}
use Rattle.tables.specs.Answer.{mount_in, place_in, row_for, RowOf, at_place, node_mount_mem, remove_mem}
use Rattle.tables.specs.declared.mounts.MountPoint.{MountPoint}
use Rattle.tables.proofs.Indexes.{tag_of_is}
use Rattle.placing.specs.declared.Tags.{Tags}
use Rattle.placing.specs.Place.{freed_mem, place_mem, out_mem, take_off_mem, InSlots, Frees, Places, TakesOff}
use Rattle.tables.specs.Layout.{count_of, removal_field}
use Rattle.tables.proofs.RowOf.{row_below, view_mount}
use Rattle.tables.proofs.Keeps.{laid_is, keeps_mount}
use Rattle.placing.proofs.Stands.{view_freed, keeps_freed}

pub frees_point : (mem : List ℕ) (old : Option MountPoint) (m : MountPoint) (r : Option ℕ) (after : List ℕ) → old ≡ Some m → m.fs_idx < 256
    → r ≡ tag_in_slot (slot_at mem m.fs_idx) → after ≡ set_slot m.fs_idx false 0 mem → Frees mem old r after
unfolding tag_at freed_mem
frees_point mem old m r after e h t b =
    subst (λ (o : Option MountPoint). Frees mem o r after) (sym e) (record { tag = tag_of_is mem m.fs_idx r h t; bytes = b; within = h })

pub frees_none : (mem : List ℕ) (old : Option MountPoint) → old ≡ None → Frees mem old None mem
unfolding tag_at freed_mem
frees_none mem old e = subst (λ (o : Option MountPoint). Frees mem o None mem) (sym e) (record { tag = refl; bytes = refl; within = tt })

pub places : (mem m₁ m₂ after : List ℕ) (x : ℕ) (m : Mount) (t : ℕ) (old : Option MountPoint) (r : Tags) → laid mem ≡ true → m.index < 256
    → mount_in old ≡ mount_of_node (view mem).tree x → Frees mem old r.replaced m₁ → r.displaced ≡ tag_in_slot (slot_at m₁ m.index)
    → m₂ ≡ node_mount_mem (nodes_of m₁) (Some m) x m₁ → after ≡ set_slot m.index true t m₂ → Places mem m t x r after
unfolding place_mem
places mem m₁ m₂ after x m t old r l h o f d e g =
    let a : m₁ ≡ freed_mem (mount_of_node (view mem).tree x) mem = f.bytes ∙ ap (λ (z : Option Mount). freed_mem z mem) o in
    let w : InSlots (mount_of_node (view mem).tree x) = subst InSlots o f.within in
    record {
      replaced = f.tag ∙ ap (λ (z : Option Mount). tag_at z (view mem)) o;
      displaced = tag_of_is m₁ m.index r.displaced h d ∙ ap (λ (i : Instance). tag_of i m.index) (ap view a ∙ view_freed mem l (mount_of_node (view mem).tree x) w);
      bytes = g ∙ ap (set_slot m.index true t) (e ∙ ap (λ (z : List ℕ). node_mount_mem (nodes_of z) (Some m) x z) a);
      within = w;
    }

-- ---- the layout rule on the way

pub laid_freed : (mem m₁ : List ℕ) (old : Option MountPoint) (r : Option ℕ) → laid mem ≡ true → Frees mem old r m₁ → laid m₁ ≡ true
laid_freed mem m₁ old r e f = ap laid f.bytes ∙ keeps_freed mem e (mount_in old)

pub laid_mounted : (mem m₁ : List ℕ) (m : Option Mount) (x : ℕ) → laid mem ≡ true → m₁ ≡ node_mount_mem (nodes_of mem) m x mem → laid m₁ ≡ true
laid_mounted mem m₁ m x e f = ap laid f ∙ keeps_mount mem e m x

-- a row that a node has is below the count
pub row_of : (mem : List ℕ) (x : ℕ) (w : Option ℕ) (i : ℕ) → RowOf mem x w → w ≡ Some i → i < count_of mem
unfolding row_for
row_of mem x w i e f = go (eqb x root_number) (sym e ∙ f)
  where
    go : (b : Bool) → cond b None (place_in (nodes_of mem) x) ≡ Some i → i < count_of mem
    go true q = absurd (none-some i q)
    go false q = row_below mem x i q

-- ---- the row of a node on the way

place_mounted : (m : Option Mount) (ns : List Node) (x y : ℕ) → place_in (nodes_with_mount m ns x) y ≡ place_in ns y
unfolding place_in nodes_with_mount
place_mounted m [] x y = refl
place_mounted m (n ∷ ns) x y = go (eqb n.number x) (place_mounted m ns x y)
  where
    go : (b : Bool) → place_in (nodes_with_mount m ns x) y ≡ place_in ns y → place_in (cond b (with_mount m n ∷ ns) (n ∷ nodes_with_mount m ns x)) y ≡ place_in (n ∷ ns) y
    go true ih = refl
    go false ih = rw ih

place_set : (t : Tree) (x : ℕ) (m : Option Mount) (y : ℕ) → place_in (set_mount t x m).nodes y ≡ place_in t.nodes y
unfolding set_mount
place_set t x m y = go (eqb x root_number)
  where
    go : (b : Bool) → place_in (cond {A = Tree} b (record { next = t.next; root = m; nodes = t.nodes }) (record { next = t.next; root = t.root; nodes = nodes_with_mount m t.nodes x })).nodes y ≡ place_in t.nodes y
    go true = refl
    go false = place_mounted m t.nodes x y

pub row_freed : (mem m₁ : List ℕ) (old : Option MountPoint) (r : Option ℕ) → laid mem ≡ true → Frees mem old r m₁ → (x : ℕ) (w : Option ℕ) → RowOf mem x w → RowOf m₁ x w
unfolding view row_for
row_freed mem m₁ old r e f x w p =
    let v : (view m₁).tree ≡ (view mem).tree = (λ i. ((ap view f.bytes ∙ view_freed mem e (mount_in old) f.within) i).tree) in
    p ∙ sym (ap (λ (t : Tree). row_for t.nodes x) v)

pub row_mounted : (mem m₁ : List ℕ) (x : ℕ) → laid mem ≡ true → m₁ ≡ node_mount_mem (nodes_of mem) None x mem → (w : Option ℕ) → RowOf mem x w → RowOf m₁ x w
unfolding view row_for
row_mounted mem m₁ x e f w p =
    let v : nodes_of m₁ ≡ (set_mount (view mem).tree x None).nodes = λ i. ((ap view f ∙ view_mount mem (laid_is mem e) x None tt) i).tree.nodes in
    p ∙ sym (ap (λ (ns : List Node). row_for ns x) v ∙ ap (λ (o : Option ℕ). cond (eqb x root_number) None o) (place_set (view mem).tree x None x))

-- ---- the node taken out, or not; r says whether nodes are removed

module _ (x : ℕ) (mem : List ℕ) (r : Bool) (set : r ≡ flag removal_field (head_of mem)) where
  pub stays_unset : not r ≡ true → mem ≡ out_mem x mem
  unfolding out_mem
  stays_unset e = rw (sym set ∙ not-true r e)

  -- what goes is the row that the node has: the root has none
  out_by : not r ≡ false → (w : Option ℕ) → RowOf mem x w → out_mem x mem ≡ at_place w (λ (i : ℕ). remove_row i mem) mem
  unfolding out_mem remove_mem row_for
  out_by e w p = rw (sym set ∙ not-false r e, p) (go (eqb x root_number))
    where
      go : (b : Bool) → cond (not b) (at_place (place_in (nodes_of mem) x) (λ (i : ℕ). remove_row i mem) mem) mem ≡ at_place (cond b None (place_in (nodes_of mem) x)) (λ (i : ℕ). remove_row i mem) mem
      go true = refl
      go false = refl

  pub goes : not r ≡ false → (w : Option ℕ) (i : ℕ) (after : List ℕ) → RowOf mem x w → w ≡ Some i → after ≡ remove_row i mem → after ≡ out_mem x mem
  goes e w i after p f a = a ∙ sym (out_by e w p ∙ rw f)

  pub nothing_goes : not r ≡ false → (w : Option ℕ) → RowOf mem x w → w ≡ None → mem ≡ out_mem x mem
  nothing_goes e w p f = sym (out_by e w p ∙ rw f)

pub takes_off : (mem m₁ m₂ after : List ℕ) (x : ℕ) (m : Mount) (r : Option ℕ) → m.index < 256 → r ≡ tag_in_slot (slot_at mem m.index) → m₁ ≡ node_mount_mem (nodes_of mem) None x mem
    → m₂ ≡ out_mem x m₁ → after ≡ set_slot m.index false 0 m₂ → TakesOff mem m x r after
unfolding take_off_mem
takes_off mem m₁ m₂ after x m r h t a b c = record {
  tag = tag_of_is mem m.index r h t;
  bytes = c ∙ ap (set_slot m.index false 0) (b ∙ ap (out_mem x) a);
}
