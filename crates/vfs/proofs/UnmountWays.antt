-- What each way through an unmount gives. Assumes nothing.
use mathlib.Core.Path.{◌≡◌, refl, sym, ap, ◌∙◌, subst}
use mathlib.Core.Bool.{true}
use mathlib.Core.List.{List}
use mathlib.Core.Logic.{inl, inr}
use Rattle.std.specs.Prelude.{Option, None, Some, Result, Ok, Err}
use Prim.Native.Nat.{ℕ, ◌<◌}
use Rattle.rules.specs.Numbers.{INVAL, NOTFOUND}
use Rattle.rules.specs.declared.codes.VfsError.{VfsError}
use Rattle.rules.specs.declared.codes.VfsError.TheVariants.{NotFound}
use Rattle.rules.specs.Tree.{Mount, Node, parent_in}
use Rattle.rules.specs.Instance.{Instance, mount_of_node}
use Rattle.rules.specs.Outcome.{Outcome, unmounted, refused, first_of}
use Rattle.rules.specs.Reached.{walk_rule}
use Rattle.rules.specs.Unmount.{unmounts, unmount_at, unmount_rule}
use Rattle.tables.specs.View.{nodes_of, view}
use Rattle.tables.specs.Laid.{laid}
use Rattle.tables.proofs.RowOf.{view_nodes}
use Rattle.tables.specs.Answer.{mount_of_point, mount_in}
use Rattle.call_form.specs.Form.{answered_by, Does}
use Rattle.tables.specs.declared.mounts.MountPoint.{MountPoint}
use Rattle.inode.specs.declared.NodeNumber.{NodeNumber}
use Rattle.pseudo_fs.specs.Told.{path_walk_told}
use Rattle.pseudo_fs.proofs.Calls.{PathLeads, Walked, walk_says}
use Rattle.placing.specs.Place.{TakesOff}
use Rattle.placing.proofs.Stands.{view_taken_off, keeps_taken_off}
use Rattle.mount_parts.specs.Follows.{Follows}
use Rattle.vfs.specs.Unmounting.{unmounted_told, off_mem, unmount_mem, Unmounts}
use Rattle.vfs.specs.declared.unmounting.Unmounted.{Unmounted}
use Rattle.storage.proofs.Calls.{does_small, does_nothing, does}

-- ---- of a node, by the mount on it

abbrev UnmountsBy : List ℕ → ℕ → Option Mount → Result Unmounted VfsError → List ℕ → Type 0
UnmountsBy mem x m r after = Follows (unmount_at (view mem) (Some x) m) (off_mem (Some x) m mem) (unmounted_told r) after

by_mount : (mem : List ℕ) (x : ℕ) (m : Option Mount) (r : Result Unmounted VfsError) (after : List ℕ) → mount_of_node (view mem).tree x ≡ m → UnmountsBy mem x m r after → Unmounts mem x r after
by_mount mem x m r after e u = subst (λ (z : Option Mount). UnmountsBy mem x z r after) (sym e) u

pub takes : (mem after : List ℕ) (x up : ℕ) (on : Option MountPoint) (m : MountPoint) (t : Option ℕ) → laid mem ≡ true → mount_in on ≡ mount_of_node (view mem).tree x → on ≡ Some m → m.fs_idx < 256
    → up ≡ parent_in (nodes_of mem) x → TakesOff mem (mount_of_point m) x t after → (a b : NodeNumber) → a.0 ≡ x → b.0 ≡ up
    → Unmounts mem x (Ok (record { node = a; parent = b; released = t })) after
unfolding unmount_at unmounts off_mem
takes mem after x up on m t l o p h u f a b q s =
    let e : mount_of_node (view mem).tree x ≡ Some (mount_of_point m) = sym o ∙ ap mount_in p in
    let w : up ≡ parent_in (view mem).tree.nodes x = u ∙ ap (λ (ns : List Node). parent_in ns x) (sym (view_nodes mem)) in
    by_mount mem x (Some (mount_of_point m)) (Ok (record { node = a; parent = b; released = t })) after e (record {
      told = λ i. record { code = 0; answer = unmounted (q i) ((s ∙ w) i) (f.tag i); count = 0 };
      bytes = f.bytes;
      stands = ap view f.bytes ∙ view_taken_off x (mount_of_point m) mem l h;
      keeps = ap laid f.bytes ∙ keeps_taken_off x (mount_of_point m) mem l h;
    })

pub finds_none : (mem : List ℕ) (x : ℕ) (on : Option MountPoint) → laid mem ≡ true → mount_in on ≡ mount_of_node (view mem).tree x → on ≡ None → Unmounts mem x (Err NotFound) mem
unfolding unmount_at off_mem
finds_none mem x on l o p =
    by_mount mem x None (Err NotFound) mem (sym o ∙ ap mount_in p) (record { told = refl; bytes = refl; stands = refl; keeps = l })

-- ---- of a path, by what the walk answered

module _ (mem path : List ℕ) (w : Result (Option NodeNumber) VfsError) (k : path_walk_told w ≡ answered_by mem (λ (i : Instance). walk_rule i path)) where
  abbrev F : Instance → Outcome
  F = λ (i : Instance). unmount_rule i path

  pub stopped : (e : VfsError) → w ≡ Err e → Does mem F (unmounted_told (Err e)) mem (unmount_mem path mem)
  unfolding unmount_mem unmount_rule first_of
  stopped e q = go (walk_says mem path w (Err e) k q)
    where
      go : Walked mem path (Err e) → Does mem F (unmounted_told (Err e)) mem (unmount_mem path mem)
      go (inl s) = rw s.1 (does_small mem F _ (unmount_mem path mem) s.0 refl (rw s.0))
      go (inr b) = rw b.2 (does_nothing mem F _ (unmount_mem path mem) (refused INVAL (view mem)) b.0 (rw b.1) refl refl (rw (b.0, b.1)))

  pub missing : w ≡ Ok None → Does mem F (unmounted_told (Err NotFound)) mem (unmount_mem path mem)
  unfolding unmount_mem unmount_rule unmount_at off_mem first_of
  missing e =
      let n = walk_says mem path w (Ok None) k e in
      does_nothing mem F (unmounted_told (Err NotFound)) (unmount_mem path mem) (refused NOTFOUND (view mem)) n.0 (rw (n.1, n.2)) refl refl (rw (n.0, n.1, n.2))

  module _ (x : NodeNumber) (e : w ≡ Ok (Some x)) where
    leads : PathLeads mem path (Some x.0)
    leads = walk_says mem path w (Ok (Some x)) k e

    pub kept : laid mem ≡ true
    kept = leads.0

    pub arrived : (v : Result Unmounted VfsError) (after : List ℕ) → Unmounts mem x.0 v after → Does mem F (unmounted_told v) after (unmount_mem path mem)
    unfolding unmount_mem unmount_rule first_of
    arrived v after f =
        does mem F (unmounted_told v) after (unmount_mem path mem) (unmount_at (view mem) (Some x.0) (mount_of_node (view mem).tree x.0)) kept (rw (leads.1, leads.2)) f.told
        (f.bytes ∙ sym (rw (leads.0, leads.1, leads.2))) f.stands f.keeps
