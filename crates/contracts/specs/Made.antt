-- Which steps the contracts allow: one way for each call that takes storage, and one for each export; and that the theorems on bytes speak of them all.
use Rattle.std.specs.Prelude.{ℕ, ◌^◌, ◌<◌, Bool, true, not, List, [], ◌∷◌, ◌⊎◌, ◌≡◌, eqb, length, Option, Result}
use Rattle.std.specs.Borrow.{Bor, MutBor}
use Rattle.rules.specs.Numbers.{DONE}
use Rattle.rules.specs.Calls.{Call, mount, restore_mount, umount, set_remove_pseudo_root, ask, path_walk, get_rootfs, route, lookup, readdir, remap_attr_id, options, initialized, save_to_bytes, restore_from_bytes}
use Rattle.rules.specs.claims.Driven.{Typed, Driven}
use Rattle.tables.specs.View.{view}
use Rattle.tables.specs.Laid.{laid}
use Rattle.call_form.specs.Form.{Told}
use Rattle.inode.specs.declared.VfsInode.{VfsInode}
use Rattle.inode.specs.declared.NodeNumber.{NodeNumber}
use Rattle.storage.specs.Answers.{removal_told, initialized_told, options_told}
use Rattle.storage.specs.Creation.{created_code}
use Rattle.vfs_options.specs.declared.VfsOptions.{VfsOptions}
use Rattle.pseudo_fs.specs.Told.{path_walk_told}
use Rattle.pseudo_fs.specs.declared.Entry.{Entry}
use Rattle.listing.specs.Listed.{listed_told}
use Rattle.vfs_query.specs.Told.{routed_told, rootfs_told, remapped_told, looked_told}
use Rattle.vfs_query.specs.declared.Routed.{Routed}
use Rattle.vfs_query.specs.declared.Rootfs.{Rootfs}
use Rattle.vfs_query.specs.declared.Remapped.{Remapped}
use Rattle.mount_parts.specs.Mounting.{request_of, mounted_told}
use Rattle.mount_parts.specs.RestoredMounting.{restored_mount_told}
use Rattle.vfs.specs.Unmounting.{unmounted_told}
use Rattle.vfs.specs.Runs.{Step, Allowed, Run, last_of}
use Rattle.mount_parts.specs.declared.backend.Backend.{Backend}
use Rattle.mount_parts.specs.declared.mounting.Mounted.{Mounted}
use Rattle.mount_parts.specs.declared.mounting.MountRefused.{MountRefused}
use Rattle.mount_parts.specs.declared.restored_mounting.RestoredMount.{RestoredMount}
use Rattle.vfs.specs.declared.unmounting.Unmounted.{Unmounted}
use Rattle.persist.specs.Saving.{saved_told}
use Rattle.persist.specs.StateRestoring.{state_restored_told}
use Rattle.flat.specs.Flat.{VfsResult}
use Rattle.flat.specs.declared.CodeAnswer.{CodeAnswer}
use Rattle.flat.specs.declared.InitializedAnswer.{InitializedAnswer}
use Rattle.flat.specs.declared.OptionsAnswer.{OptionsAnswer}
use Rattle.flat.specs.declared.MountAnswer.{MountAnswer}
use Rattle.flat.specs.declared.RestoreMountAnswer.{RestoreMountAnswer}
use Rattle.flat.specs.declared.UmountAnswer.{UmountAnswer}
use Rattle.flat.specs.declared.RootfsAnswer.{RootfsAnswer}
use Rattle.flat.specs.declared.WalkAnswer.{WalkAnswer}
use Rattle.flat.specs.declared.RouteAnswer.{RouteAnswer}
use Rattle.flat.specs.declared.LookupAnswer.{LookupAnswer}
use Rattle.flat.specs.declared.WroteAnswer.{WroteAnswer}
use Rattle.flat.specs.declared.IdsAnswer.{IdsAnswer}
use Rattle.gateway.specs.Calls.{request_by}
use Rattle.contracts.specs.Reads.{code_read, initialized_read, options_read, mount_read, restore_mount_read, umount_read, rootfs_read, walk_read, route_read, lookup_read, wrote_read, ids_read}
use Rattle.storage.proofs.create.Reads as storage-create
use Rattle.storage.proofs.set_remove_pseudo_root.Reads as storage-remove
use Rattle.storage.proofs.options.Reads as storage-options
use Rattle.storage.proofs.initialized.Reads as storage-initialized
use Rattle.pseudo_fs.proofs.path_walk.Reads as tree-walk
use Rattle.listing.proofs.readdir.Reads as listing-readdir
use Rattle.vfs_query.proofs.get_rootfs.Reads as query-rootfs
use Rattle.vfs_query.proofs.route.Reads as query-route
use Rattle.vfs_query.proofs.lookup.Reads as query-lookup
use Rattle.vfs_query.proofs.remap_attr_id.Reads as query-remap
use Rattle.vfs.proofs.mounting.mount.Reads as vfs-mount
use Rattle.vfs.proofs.restored_mounting.restore_mount.Reads as vfs-restore-mount
use Rattle.vfs.proofs.unmounting.umount.Reads as vfs-umount
use Rattle.persist.proofs.saving.save_to_bytes.Reads as persist-save
use Rattle.persist.proofs.state_restoring.restore_from_bytes.Reads as persist-restore
use Rattle.gateway.proofs.instance.galdovar_create.Reads as galdovar-create
use Rattle.gateway.proofs.instance.galdovar_set_remove_pseudo_root.Reads as galdovar-remove
use Rattle.gateway.proofs.instance.galdovar_options.Reads as galdovar-options
use Rattle.gateway.proofs.instance.galdovar_initialized.Reads as galdovar-initialized
use Rattle.gateway.proofs.instance.galdovar_remap_attr_id.Reads as galdovar-remap
use Rattle.gateway.proofs.mounts.galdovar_mount.Reads as galdovar-mount
use Rattle.gateway.proofs.mounts.galdovar_restore_mount.Reads as galdovar-restore-mount
use Rattle.gateway.proofs.mounts.galdovar_umount.Reads as galdovar-umount
use Rattle.gateway.proofs.mounts.galdovar_get_rootfs.Reads as galdovar-rootfs
use Rattle.gateway.proofs.mounts.galdovar_route.Reads as galdovar-route
use Rattle.gateway.proofs.tree.galdovar_path_walk.Reads as galdovar-walk
use Rattle.gateway.proofs.tree.galdovar_lookup.Reads as galdovar-lookup
use Rattle.gateway.proofs.tree.galdovar_readdir.Reads as galdovar-readdir
use Rattle.gateway.proofs.state.galdovar_save_to_bytes.Reads as galdovar-save
use Rattle.gateway.proofs.state.galdovar_restore_from_bytes.Reads as galdovar-restore

-- the call c on the bytes mem told t, and left `after`
abbrev pub step_by : List ℕ → Call → Told → List ℕ → Step
step_by mem c t after = record { before = mem; call = c; told = t; after = after }

-- lent bytes; `now` is what they hold
abbrev pub Lent : Type 0
Lent = Bor (List ℕ)

-- the same, lent to be written
abbrev pub LentMut : Type 0
LentMut = MutBor (List ℕ)

-- ---- the calls

-- one way for each call. `Post` of a function is its contract, what its `ensures` says: of its arguments, with what lent bytes held, of its answer, and of what they
-- hold then; κs are the lifetimes of the references. A call to which the storage is lent to be read leaves it
pub data Called : Step → Type 0 where
  by_remove : (κs : _) (s : LentMut) (r : VfsResult (Unit {0})) (x : _) → storage-remove.Post κs (s, tt) r x → Called (step_by s.now set_remove_pseudo_root (removal_told r) x.0.now)
  by_mount : (κs : _) (s : LentMut) (path : Lent) (b : Backend) (r : Result Mounted MountRefused) (x : _) → vfs-mount.Post κs (s, (path, (b, tt))) r x
      → Called (step_by s.now (mount (request_of path.now b)) (mounted_told r) x.0.now)
  by_restore_mount : (κs : _) (s : LentMut) (k : ℕ) (path : Lent) (b : Backend) (r : VfsResult RestoredMount) (x : _) → vfs-restore-mount.Post κs (s, (k, (path, (b, tt)))) r x
      → Called (step_by s.now (restore_mount k (request_of path.now b)) (restored_mount_told r) x.0.now)
  by_umount : (κs : _) (s : LentMut) (path : Lent) (r : VfsResult Unmounted) (x : _) → vfs-umount.Post κs (s, (path, tt)) r x → Called (step_by s.now (umount path.now) (unmounted_told r) x.0.now)
  by_restore : (κs : _) (s : LentMut) (b : Lent) (r : VfsResult (Unit {0})) (x : _) → persist-restore.Post κs (s, (b, tt)) r x → Called (step_by s.now (restore_from_bytes b.now) (state_restored_told r) x.0.now)
  by_walk : (κs : _) (s path : Lent) (r : VfsResult (Option NodeNumber)) (x : _) → tree-walk.Post κs (s, (path, tt)) r x → Called (step_by s.now (ask (path_walk path.now)) (path_walk_told r) s.now)
  by_rootfs : (κs : _) (s path : Lent) (r : VfsResult (Option Rootfs)) (x : _) → query-rootfs.Post κs (s, (path, tt)) r x → Called (step_by s.now (ask (get_rootfs path.now)) (rootfs_told r) s.now)
  by_route : (κs : _) (s : Lent) (n : VfsInode) (r : VfsResult Routed) (x : _) → query-route.Post κs (s, (n, tt)) r x → Called (step_by s.now (ask (route n.0)) (routed_told r) s.now)
  by_lookup : (κs : _) (s : Lent) (n : NodeNumber) (name : Lent) (r : VfsResult Entry) (x : _) → query-lookup.Post κs (s, (n, (name, tt))) r x
      → Called (step_by s.now (ask (lookup n.0 name.now)) (looked_told r) s.now)
  by_remap : (κs : _) (s : Lent) (uid gid : ℕ) (out : Bool) (r : VfsResult Remapped) (x : _) → query-remap.Post κs (s, (uid, (gid, (out, tt)))) r x
      → Called (step_by s.now (ask (remap_attr_id out uid gid)) (remapped_told r) s.now)
  by_options : (κs : _) (s : Lent) (r : VfsResult VfsOptions) (x : _) → storage-options.Post κs (s, tt) r x → Called (step_by s.now (ask options) (options_told r) s.now)
  by_initialized : (κs : _) (s : Lent) (r : VfsResult Bool) (x : _) → storage-initialized.Post κs (s, tt) r x → Called (step_by s.now (ask initialized) (initialized_told r) s.now)
  by_readdir : (κs : _) (s : Lent) (n : NodeNumber) (size offset : ℕ) (out : LentMut) (r : VfsResult ℕ) (x : _) → listing-readdir.Post κs (s, (n, (size, (offset, (out, tt))))) r x
      → Called (step_by s.now (ask (readdir (record { node = n.0; size = size; offset = offset; buffer = length out.now }))) (listed_told r) s.now)
  by_save : (κs : _) (s : Lent) (out : LentMut) (r : VfsResult ℕ) (x : _) → persist-save.Post κs (s, (out, tt)) r x → Called (step_by s.now (ask (save_to_bytes (length out.now))) (saved_told r) s.now)

-- ---- the exports

-- one way for each export: what is told is what a host reads in the numbers of the answer
pub data Exported : Step → Type 0 where
  by_remove : (κs : _) (s : LentMut) (r : CodeAnswer) (x : _) → galdovar-remove.Post κs (s, tt) r x → Exported (step_by s.now set_remove_pseudo_root (code_read r) x.0.now)
  by_mount : (κs : _) (s : LentMut) (path : Lent) (tag root largest uid gid mode : ℕ) (r : MountAnswer) (x : _)
      → galdovar-mount.Post κs (s, (path, (tag, (root, (largest, (uid, (gid, (mode, tt)))))))) r x
      → Exported (step_by s.now (mount (request_by path.now tag root largest uid gid mode)) (mount_read r) x.0.now)
  by_restore_mount : (κs : _) (s : LentMut) (k : ℕ) (path : Lent) (tag root largest uid gid mode : ℕ) (r : RestoreMountAnswer) (x : _)
      → galdovar-restore-mount.Post κs (s, (k, (path, (tag, (root, (largest, (uid, (gid, (mode, tt))))))))) r x
      → Exported (step_by s.now (restore_mount k (request_by path.now tag root largest uid gid mode)) (restore_mount_read r) x.0.now)
  by_umount : (κs : _) (s : LentMut) (path : Lent) (r : UmountAnswer) (x : _) → galdovar-umount.Post κs (s, (path, tt)) r x → Exported (step_by s.now (umount path.now) (umount_read r) x.0.now)
  by_restore : (κs : _) (s : LentMut) (b : Lent) (r : CodeAnswer) (x : _) → galdovar-restore.Post κs (s, (b, tt)) r x → Exported (step_by s.now (restore_from_bytes b.now) (code_read r) x.0.now)
  by_walk : (κs : _) (s path : Lent) (r : WalkAnswer) (x : _) → galdovar-walk.Post κs (s, (path, tt)) r x → Exported (step_by s.now (ask (path_walk path.now)) (walk_read r) s.now)
  by_rootfs : (κs : _) (s path : Lent) (r : RootfsAnswer) (x : _) → galdovar-rootfs.Post κs (s, (path, tt)) r x → Exported (step_by s.now (ask (get_rootfs path.now)) (rootfs_read r) s.now)
  by_route : (κs : _) (s : Lent) (n : ℕ) (r : RouteAnswer) (x : _) → galdovar-route.Post κs (s, (n, tt)) r x → Exported (step_by s.now (ask (route n)) (route_read r) s.now)
  by_lookup : (κs : _) (s : Lent) (n : ℕ) (name : Lent) (r : LookupAnswer) (x : _) → galdovar-lookup.Post κs (s, (n, (name, tt))) r x
      → Exported (step_by s.now (ask (lookup n name.now)) (lookup_read r) s.now)
  by_remap : (κs : _) (s : Lent) (uid gid out : ℕ) (r : IdsAnswer) (x : _) → galdovar-remap.Post κs (s, (uid, (gid, (out, tt)))) r x
      → Exported (step_by s.now (ask (remap_attr_id (not (eqb out 0)) uid gid)) (ids_read r) s.now)
  by_options : (κs : _) (s : Lent) (r : OptionsAnswer) (x : _) → galdovar-options.Post κs (s, tt) r x → Exported (step_by s.now (ask options) (options_read r) s.now)
  by_initialized : (κs : _) (s : Lent) (r : InitializedAnswer) (x : _) → galdovar-initialized.Post κs (s, tt) r x → Exported (step_by s.now (ask initialized) (initialized_read r) s.now)
  by_readdir : (κs : _) (s : Lent) (n size offset : ℕ) (out : LentMut) (r : WroteAnswer) (x : _) → galdovar-readdir.Post κs (s, (n, (size, (offset, (out, tt))))) r x
      → Exported (step_by s.now (ask (readdir (record { node = n; size = size; offset = offset; buffer = length out.now }))) (wrote_read r) s.now)
  by_save : (κs : _) (s : Lent) (out : LentMut) (r : WroteAnswer) (x : _) → galdovar-save.Post κs (s, (out, tt)) r x → Exported (step_by s.now (ask (save_to_bytes (length out.now))) (wrote_read r) s.now)

-- ---- the claims

-- the theorems on bytes speak of every step that the contract of its call allows
abbrev pub EveryContract : Type 0
EveryContract = (s : Step) → Called s → Allowed s

-- and of every step that the contract of its export allows, with what a host reads in the numbers
abbrev pub EveryExport : Type 0
EveryExport = (s : Step) → Exported s → Allowed s

-- steps by calls and exports, each on what the last one left
unfoldable pub RunBy : List ℕ → List Step → Type 0
RunBy mem [] = Unit {0}
RunBy mem (s ∷ ss) = (s.before ≡ mem) × ((Called s ⊎ Exported s) × RunBy s.after ss)

-- are a run of which these theorems speak
abbrev pub EveryRunBy : Type 0
EveryRunBy = (mem : List ℕ) (ss : List Step) → RunBy mem ss → Run mem ss

-- bytes that a creation left, the call or the export, which told that it is done; its mask is a number of 64 bits (R26)
pub data CreatedBytes : List ℕ → Type 0 where
  by_create : (κs : _) (s : LentMut) (n known : ℕ) (o : VfsOptions) (r : VfsResult (Unit {0})) (x : _) → storage-create.Post κs (s, (n, (known, (o, tt)))) r x
      → known < 2 ^ 64 → created_code r ≡ DONE → CreatedBytes x.0.now
  by_export : (κs : _) (s : LentMut) (n known ins outs flags internal external range : ℕ) (r : CodeAnswer) (x : _)
      → galdovar-create.Post κs (s, (n, (known, (ins, (outs, (flags, (internal, (external, (range, tt))))))))) r x
      → known < 2 ^ 64 → r.code ≡ DONE → CreatedBytes x.0.now

-- keep the layout rule and stand for a driven instance
abbrev pub EveryCreated : Type 0
EveryCreated = (mem : List ℕ) → CreatedBytes mem → (laid mem ≡ true) × Driven (view mem)

-- the bytes that the steps restore are bytes
unfoldable pub TypedIn : List Step → Type 0
TypedIn [] = Unit {0}
TypedIn (s ∷ ss) = Typed s.call × TypedIn ss

-- after any run from bytes that keep the layout rule and are driven, state restores included, the bytes still do and are
abbrev pub EveryRunDriven : Type 0
EveryRunDriven = (mem : List ℕ) → laid mem ≡ true → Driven (view mem) → (ss : List Step) → Run mem ss → TypedIn ss
    → (laid (last_of mem ss) ≡ true) × Driven (view (last_of mem ss))
