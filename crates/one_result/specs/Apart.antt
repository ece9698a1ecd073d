-- No two answers of a call have the same plain numbers: a host tells all of them apart, none from tag 0, and every refusal from every other.
use Rattle.std.specs.Prelude.{◌≡◌, ℕ, Bool, Option, Result}
use Rattle.rules.specs.Codes.{result_code}
use Rattle.inode.specs.Converted.{full_of}
use Rattle.inode.specs.declared.VfsInode.{VfsInode}
use Rattle.inode.specs.declared.NodeNumber.{NodeNumber}
use Rattle.vfs_options.specs.declared.VfsOptions.{VfsOptions}
use Rattle.storage.specs.Answers.{removal_told, initialized_told, options_told}
use Rattle.storage.specs.Creation.{created_code}
use Rattle.pseudo_fs.specs.Told.{path_walk_told}
use Rattle.pseudo_fs.specs.declared.Entry.{Entry}
use Rattle.listing.specs.Listed.{listed_told}
use Rattle.vfs_query.specs.Told.{routed_told, rootfs_told, remapped_told, looked_told}
use Rattle.vfs_query.specs.declared.Remapped.{Remapped}
use Rattle.vfs_query.specs.declared.Rootfs.{Rootfs}
use Rattle.vfs_query.specs.declared.Routed.{Routed}
use Rattle.mount_parts.specs.Mounting.{mounted_told}
use Rattle.mount_parts.specs.RestoredMounting.{restored_mount_told}
use Rattle.vfs.specs.Unmounting.{unmounted_told}
use Rattle.mount_parts.specs.declared.mounting.Mounted.{Mounted}
use Rattle.mount_parts.specs.declared.mounting.MountRefused.{MountRefused}
use Rattle.mount_parts.specs.declared.restored_mounting.RestoredMount.{RestoredMount}
use Rattle.vfs.specs.declared.unmounting.Unmounted.{Unmounted}
use Rattle.persist.specs.StateRestoring.{state_restored_told}
use Rattle.persist.specs.Saving.{saved_told}
use Rattle.flat.specs.Flat.{VfsResult, code_alone, code_numbers, initialized_numbers, options_numbers, mount_numbers, restore_mount_numbers, umount_numbers, rootfs_numbers, walk_numbers, route_numbers, lookup_numbers, wrote_numbers, ids_numbers, inode_numbers}

-- what a function tells of things tells them apart
abbrev pub Apart : {A B : Type 0} → (A → B) → Type 0
Apart {A} tells = (a b : A) → tells a ≡ tells b → a ≡ b

-- so do the plain numbers of each answer (R15, R16)
pub record EveryApart : Type 0 where
  pub created : Apart (λ (a : VfsResult (Unit {0})). code_alone (created_code a))
  pub removal : Apart (λ (a : VfsResult (Unit {0})). code_numbers (removal_told a))
  pub initialized : Apart (λ (a : VfsResult Bool). initialized_numbers (initialized_told a))
  pub options : Apart (λ (a : VfsResult VfsOptions). options_numbers (options_told a))
  pub saved : Apart (λ (a : VfsResult ℕ). wrote_numbers (saved_told a))
  pub state : Apart (λ (a : VfsResult (Unit {0})). code_numbers (state_restored_told a))
  pub converted : Apart (λ (a : VfsResult VfsInode). inode_numbers (result_code a) (full_of a))
  pub checked : Apart (λ (a : VfsResult (Unit {0})). code_alone (result_code a))
  pub mounted : Apart (λ (a : Result Mounted MountRefused). mount_numbers (mounted_told a))
  pub restored : Apart (λ (a : VfsResult RestoredMount). restore_mount_numbers (restored_mount_told a))
  pub unmounted : Apart (λ (a : VfsResult Unmounted). umount_numbers (unmounted_told a))
  pub rootfs : Apart (λ (a : VfsResult (Option Rootfs)). rootfs_numbers (rootfs_told a))
  pub routed : Apart (λ (a : VfsResult Routed). route_numbers (routed_told a))
  pub remapped : Apart (λ (a : VfsResult Remapped). ids_numbers (remapped_told a))
  pub walked : Apart (λ (a : VfsResult (Option NodeNumber)). walk_numbers (path_walk_told a))
  pub looked : Apart (λ (a : VfsResult Entry). lookup_numbers (looked_told a))
  pub listed : Apart (λ (a : VfsResult ℕ). wrote_numbers (listed_told a))
