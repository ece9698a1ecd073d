-- No two answers of a call have the same numbers, each call in its turn. Assumes nothing.
use mathlib.Core.Path.{◌≡◌, refl, ap, ◌∙◌}
use Prim.Native.Nat.{ℕ}
use mathlib.Core.Bool.{Bool, true, false}
use lib.Dec.{eqb}
use Rattle.std.specs.Prelude.{Option, None, Some, Result, Ok, Err}
use Rattle.rules.specs.Numbers.{DONE}
use Rattle.rules.specs.Codes.{result_code}
use Rattle.rules.specs.Outcome.{nothing, truth, wrote, settings, restored_mount, unmounted, walked}
use Rattle.rules.specs.declared.codes.VfsError.{VfsError}
use Rattle.call_form.specs.Form.{tells}
use Rattle.call_form.proofs.Apart.{error_of, error_back}
use Rattle.inode.specs.Converted.{full_of}
use Rattle.inode.specs.declared.VfsInode.{VfsInode}
use Rattle.inode.specs.declared.NodeNumber.{NodeNumber}
use Rattle.vfs_options.specs.Given.{options_in}
use Rattle.vfs_options.specs.declared.VfsOptions.{VfsOptions}
use Rattle.storage.specs.Creation.{created_code}
use Rattle.storage.specs.Answers.{removal_told, initialized_told, options_told}
use Rattle.pseudo_fs.specs.Told.{path_walk_told, entry_answer}
use Rattle.pseudo_fs.specs.declared.Entry.{Entry}
use Rattle.listing.specs.Listed.{listed_told}
use Rattle.vfs_query.specs.Told.{route_answer, rootfs_answer, ids_answer, routed_told, rootfs_told, remapped_told, looked_told}
use Rattle.vfs_query.specs.declared.Routed.{Routed}
use Rattle.vfs_query.specs.declared.Routed.TheVariants.{Tree, Backend}
use Rattle.vfs_query.specs.declared.Rootfs.{Rootfs}
use Rattle.vfs_query.specs.declared.Remapped.{Remapped}
use Rattle.mount_parts.specs.Mounting.{mounted_told}
use Rattle.mount_parts.specs.RestoredMounting.{restored_mount_told}
use Rattle.mount_parts.specs.declared.mounting.Mounted.{Mounted}
use Rattle.mount_parts.specs.declared.mounting.MountRefused.{MountRefused}
use Rattle.mount_parts.specs.declared.restored_mounting.RestoredMount.{RestoredMount}
use Rattle.vfs.specs.Unmounting.{unmounted_told}
use Rattle.vfs.specs.declared.unmounting.Unmounted.{Unmounted}
use Rattle.persist.specs.Saving.{saved_told}
use Rattle.persist.specs.StateRestoring.{state_restored_told}
use Rattle.flat.specs.Flat.{VfsResult, code_alone, code_numbers, initialized_numbers, options_numbers, mount_numbers, restore_mount_numbers, umount_numbers, rootfs_numbers, walk_numbers, route_numbers, lookup_numbers, wrote_numbers, ids_numbers, inode_numbers}
use Rattle.flat.specs.declared.CodeAnswer.{CodeAnswer}
use Rattle.flat.specs.declared.OptionsAnswer.{OptionsAnswer}
use Rattle.flat.specs.declared.MountAnswer.{MountAnswer}
use Rattle.flat.specs.declared.RestoreMountAnswer.{RestoreMountAnswer}
use Rattle.flat.specs.declared.UmountAnswer.{UmountAnswer}
use Rattle.flat.specs.declared.RootfsAnswer.{RootfsAnswer}
use Rattle.flat.specs.declared.WalkAnswer.{WalkAnswer}
use Rattle.flat.specs.declared.RouteAnswer.{RouteAnswer}
use Rattle.flat.specs.declared.LookupAnswer.{LookupAnswer}
use Rattle.flat.specs.declared.IdsAnswer.{IdsAnswer}
use Rattle.flat.specs.declared.InodeAnswer.{InodeAnswer}
use Rattle.one_result.specs.Apart.{Apart, EveryApart}
use Rattle.one_result.proofs.Apart.{apart, at, not_done, some_back, some_back_lem, result_back, refused_back, result_apart}

-- ---- by the number alone

pub created_apart : Apart (λ (a : VfsResult (Unit {0})). code_alone (created_code a))
created_apart = apart (λ (a : VfsResult (Unit {0})). code_alone (created_code a)) (λ (r : CodeAnswer). result_back r.code tt) go
  where
    go : (a : VfsResult (Unit {0})) → result_back (created_code a) tt ≡ a
    go (Ok x) = refl
    go (Err e) = refused_back tt e

pub checked_apart : Apart (λ (a : VfsResult (Unit {0})). code_alone (result_code a))
checked_apart = apart (λ (a : VfsResult (Unit {0})). code_alone (result_code a)) (λ (r : CodeAnswer). result_back r.code tt) go
  where
    go : (a : VfsResult (Unit {0})) → result_back (result_code a) tt ≡ a
    go (Ok x) = refl
    go (Err e) = refused_back tt e

pub removal_apart : Apart (λ (a : VfsResult (Unit {0})). code_numbers (removal_told a))
removal_apart = result_apart (λ (u : Unit {0}). nothing) code_numbers (λ r. r.code) (λ r. tt) (λ t. refl) (λ u. refl)

pub state_apart : Apart (λ (a : VfsResult (Unit {0})). code_numbers (state_restored_told a))
state_apart = result_apart (λ (u : Unit {0}). nothing) code_numbers (λ r. r.code) (λ r. tt) (λ t. refl) (λ u. refl)

-- ---- by the values too

pub initialized_apart : Apart (λ (a : VfsResult Bool). initialized_numbers (initialized_told a))
initialized_apart = result_apart truth initialized_numbers (λ r. r.code) (λ r. eqb r.initialized 1) (λ t. refl) go
  where
    go : (b : Bool) → eqb (initialized_numbers (tells (truth b))).initialized 1 ≡ b
    go true = refl
    go false = refl

abbrev options_back : OptionsAnswer → VfsOptions
options_back r = record { in_opts = r.in_opts; out_opts = r.out_opts; id_mapping = record { internal = r.internal; external = r.external; range = r.range }; flags = r.flags }

pub options_apart : Apart (λ (a : VfsResult VfsOptions). options_numbers (options_told a))
options_apart = result_apart (λ (o : VfsOptions). settings (options_in o)) options_numbers (λ r. r.code) options_back (λ t. refl) (λ o. refl)

pub saved_apart : Apart (λ (a : VfsResult ℕ). wrote_numbers (saved_told a))
saved_apart = result_apart wrote wrote_numbers (λ r. r.code) (λ r. r.written) (λ t. refl) (λ n. refl)

pub listed_apart : Apart (λ (a : VfsResult ℕ). wrote_numbers (listed_told a))
listed_apart = result_apart wrote wrote_numbers (λ r. r.code) (λ r. r.written) (λ t. refl) (λ n. refl)

pub converted_apart : Apart (λ (a : VfsResult VfsInode). inode_numbers (result_code a) (full_of a))
unfolding full_of
converted_apart = apart (λ (a : VfsResult VfsInode). inode_numbers (result_code a) (full_of a)) (λ (r : InodeAnswer). result_back r.code (record { 0 = r.inode })) go
  where
    go : (a : VfsResult VfsInode) → result_back (result_code a) (record { 0 = (inode_numbers (result_code a) (full_of a)).inode }) ≡ a
    go (Ok x) = refl
    go (Err e) = refused_back (record { 0 = 0 }) e

-- ---- mounts

abbrev mounted_back : MountAnswer → Result Mounted MountRefused
mounted_back r =
    at DONE r.code
    (Ok (record { fs_idx = r.fs_idx; count = r.count; replaced = some_back r.has_replaced r.replaced }))
    (Err (record { why = error_of r.code; count = r.count }))

pub mounted_apart : Apart (λ (a : Result Mounted MountRefused). mount_numbers (mounted_told a))
mounted_apart = apart (λ (a : Result Mounted MountRefused). mount_numbers (mounted_told a)) mounted_back go
  where
    go : (a : Result Mounted MountRefused) → mounted_back (mount_numbers (mounted_told a)) ≡ a
    go (Ok m) = ap (λ (t : Option ℕ). Ok (record { fs_idx = m.fs_idx; count = m.count; replaced = t })) (some_back_lem m.replaced)
    go (Err r) = not_done r.why _ _ ∙ ap (λ (w : VfsError). Err (record { why = w; count = r.count })) (error_back r.why)

pub restored_apart : Apart (λ (a : VfsResult RestoredMount). restore_mount_numbers (restored_mount_told a))
restored_apart =
    result_apart (λ (x : RestoredMount). restored_mount x.replaced x.displaced) restore_mount_numbers (λ r. r.code)
    (λ (r : RestoreMountAnswer). record { replaced = some_back r.has_replaced r.replaced; displaced = some_back r.has_displaced r.displaced })
    (λ t. refl)
    (λ x i. record { replaced = some_back_lem x.replaced i; displaced = some_back_lem x.displaced i })

pub unmounted_apart : Apart (λ (a : VfsResult Unmounted). umount_numbers (unmounted_told a))
unmounted_apart =
    result_apart (λ (x : Unmounted). unmounted x.node.0 x.parent.0 x.released) umount_numbers (λ r. r.code)
    (λ (r : UmountAnswer). record { node = record { 0 = r.node }; parent = record { 0 = r.parent }; released = some_back r.has_released r.released })
    (λ t. refl)
    (λ x i. record { node = x.node; parent = x.parent; released = some_back_lem x.released i })

-- ---- queries

pub rootfs_apart : Apart (λ (a : VfsResult (Option Rootfs)). rootfs_numbers (rootfs_told a))
rootfs_apart = result_apart rootfs_answer rootfs_numbers (λ r. r.code) back (λ t. refl) go
  where
    back : RootfsAnswer → Option Rootfs
    back r = some_back r.has_backend (record { tag = r.tag; fs_idx = r.fs_idx })

    go : (o : Option Rootfs) → back (rootfs_numbers (tells (rootfs_answer o))) ≡ o
    go None = refl
    go (Some b) = refl

pub routed_apart : Apart (λ (a : VfsResult Routed). route_numbers (routed_told a))
routed_apart = result_apart route_answer route_numbers (λ r. r.code) back (λ t. refl) go
  where
    back : RouteAnswer → Routed
    back r = at 1 r.to_backend (Backend r.tag r.fs_idx (record { 0 = r.number })) (Tree (record { 0 = r.number }))

    go : (x : Routed) → back (route_numbers (tells (route_answer x))) ≡ x
    go (Tree x) = refl
    go (Backend t k x) = refl

pub remapped_apart : Apart (λ (a : VfsResult Remapped). ids_numbers (remapped_told a))
remapped_apart = result_apart ids_answer ids_numbers (λ r. r.code) (λ (r : IdsAnswer). record { uid = r.uid; gid = r.gid }) (λ t. refl) (λ x. refl)

pub walked_apart : Apart (λ (a : VfsResult (Option NodeNumber)). walk_numbers (path_walk_told a))
walked_apart = result_apart _ walk_numbers (λ r. r.code) back (λ t. refl) go
  where
    back : WalkAnswer → Option NodeNumber
    back r = some_back r.has_node (record { 0 = r.node })

    go : (o : Option NodeNumber) → back (walk_numbers (path_walk_told (Ok o))) ≡ o
    go None = refl
    go (Some x) = refl

pub looked_apart : Apart (λ (a : VfsResult Entry). lookup_numbers (looked_told a))
unfolding entry_answer
looked_apart =
    result_apart entry_answer lookup_numbers (λ r. r.code)
    (λ (r : LookupAnswer). record { inode = record { 0 = r.inode }; mode = r.mode; uid = r.uid; gid = r.gid; blksize = r.blksize })
    (λ t. refl)
    (λ e. refl)

-- ---- of every call

pub every_apart : EveryApart
every_apart = record {
  created = created_apart;
  removal = removal_apart;
  initialized = initialized_apart;
  options = options_apart;
  saved = saved_apart;
  state = state_apart;
  converted = converted_apart;
  checked = checked_apart;
  mounted = mounted_apart;
  restored = restored_apart;
  unmounted = unmounted_apart;
  rootfs = rootfs_apart;
  routed = routed_apart;
  remapped = remapped_apart;
  walked = walked_apart;
  looked = looked_apart;
  listed = listed_apart;
}
