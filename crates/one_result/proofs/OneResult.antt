-- Each call that takes storage has one result: what an answer tells and the bytes after are given by equations, and `flat` says that no two answers tell the same. Assumes nothing.
use mathlib.Core.Path.{◌≡◌, sym, ap, ◌∙◌}
use Prim.Native.Nat.{ℕ}
use mathlib.Core.List.{List}
use Rattle.rules.specs.Instance.{Instance}
use Rattle.rules.specs.Outcome.{Outcome}
use Rattle.call_form.specs.Form.{Told, Writes, Does}
use Rattle.storage.specs.Answers.{removal_told, initialized_told, options_told}
use Rattle.pseudo_fs.specs.Told.{path_walk_told}
use Rattle.listing.specs.Listed.{listed_told}
use Rattle.vfs_query.specs.Told.{routed_told, rootfs_told, remapped_told, looked_told}
use Rattle.mount_parts.specs.Mounting.{mounted_told}
use Rattle.mount_parts.specs.RestoredMounting.{restored_mount_told}
use Rattle.vfs.specs.Unmounting.{unmounted_told}
use Rattle.persist.specs.Saving.{saved_told}
use Rattle.persist.specs.StateRestoring.{state_restored_told}
use Rattle.one_result.specs.Apart.{Apart}
use Rattle.flat.specs.Flat.{code_alone, code_numbers, initialized_numbers, options_numbers, mount_numbers, restore_mount_numbers, umount_numbers, rootfs_numbers, walk_numbers, route_numbers, lookup_numbers, wrote_numbers, ids_numbers}
use Rattle.one_result.proofs.Apart.{told_apart}
use Rattle.one_result.proofs.Whole.{every_apart}
use Rattle.one_result.specs.OneResult.{OneResult}

-- two that are told as one third are equal
joined : {A B : Type 0} {told : A → B} → Apart told → {c : B} (r t : A) → told r ≡ c → told t ≡ c → r ≡ t
joined h r t p q = h r t (p ∙ sym q)

-- ---- the two forms of the contracts that leave lent bytes

module _ {A : Type 0} {told : A → Told} (h : Apart told) (mem : List ℕ) (f : Instance → Outcome) where
  does_once : (exact : List ℕ) (r t : A × List ℕ) → Does mem f (told r.0) r.1 exact → Does mem f (told t.0) t.1 exact → r ≡ t
  does_once exact r t a b i = (joined h r.0 t.0 a.answer b.answer i, (a.bytes ∙ sym b.bytes) i)

  writes_once : (d : List ℕ) (r t : A × List ℕ) → Writes mem f d (told r.0) r.1 → Writes mem f d (told t.0) t.1 → r ≡ t
  writes_once d r t a b i = (joined h r.0 t.0 a.answer b.answer i, (a.bytes ∙ sym b.bytes) i)

-- ---- the theorem

pub one_result : OneResult
one_result = record {
  create = λ i r t a b. λ j. (joined (λ x y e. every_apart.created x y (ap code_alone e)) r.0 t.0 a.answer b.answer j, (a.bytes ∙ sym b.bytes) j);
  set_remove_pseudo_root = λ i. does_once (told_apart removal_told code_numbers every_apart.removal) _ _ _;
  initialized = λ i. joined (told_apart initialized_told initialized_numbers every_apart.initialized);
  options = λ i. joined (told_apart options_told options_numbers every_apart.options);
  path_walk = λ i. joined (told_apart path_walk_told walk_numbers every_apart.walked);
  lookup = λ i. joined (told_apart looked_told lookup_numbers every_apart.looked);
  readdir = λ i. writes_once (told_apart listed_told wrote_numbers every_apart.listed) _ _ _;
  mount = λ i. does_once (told_apart mounted_told mount_numbers every_apart.mounted) _ _ _;
  restore_mount = λ i. does_once (told_apart restored_mount_told restore_mount_numbers every_apart.restored) _ _ _;
  umount = λ i. does_once (told_apart unmounted_told umount_numbers every_apart.unmounted) _ _ _;
  get_rootfs = λ i. joined (told_apart rootfs_told rootfs_numbers every_apart.rootfs);
  route = λ i. joined (told_apart routed_told route_numbers every_apart.routed);
  remap_attr_id = λ i. joined (told_apart remapped_told ids_numbers every_apart.remapped);
  save_to_bytes = λ i. writes_once (told_apart saved_told wrote_numbers every_apart.saved) _ _ _;
  restore_from_bytes = λ i. does_once (told_apart state_restored_told code_numbers every_apart.state) _ _ _;
  feed = λ i r t a b. λ j. ((a.answer ∙ sym b.answer) j, (a.bytes ∙ sym b.bytes) j, (a.begun ∙ sym b.begun) j, (a.text ∙ sym b.text) j);
  finish = λ i r t a b. λ j. ((a.answer ∙ sym b.answer) j, (a.bytes ∙ sym b.bytes) j, (a.text ∙ sym b.text) j);
}
