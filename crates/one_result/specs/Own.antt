-- The contracts that `OneResult` speaks of are those of the functions: what a function's own contract, as the checker reads it, allows of lent references, they allow of the bytes.
use Rattle.std.specs.Prelude.{ℕ, Bool, Option, Result}
use Rattle.std.specs.Borrow.{Bor, MutBor}
use contract.Lifetimes.{Lfts}
use Rattle.inode.specs.declared.VfsInode.{VfsInode}
use Rattle.inode.specs.declared.NodeNumber.{NodeNumber}
use Rattle.vfs_options.specs.declared.VfsOptions.{VfsOptions}
use Rattle.pseudo_fs.specs.declared.Entry.{Entry}
use Rattle.vfs_query.specs.declared.Routed.{Routed}
use Rattle.vfs_query.specs.declared.Rootfs.{Rootfs}
use Rattle.vfs_query.specs.declared.Remapped.{Remapped}
use Rattle.mount_parts.specs.declared.backend.Backend.{Backend}
use Rattle.mount_parts.specs.declared.mounting.Mounted.{Mounted}
use Rattle.mount_parts.specs.declared.mounting.MountRefused.{MountRefused}
use Rattle.mount_parts.specs.declared.restored_mounting.RestoredMount.{RestoredMount}
use Rattle.vfs.specs.declared.unmounting.Unmounted.{Unmounted}
use Rattle.flat.specs.Flat.{VfsResult}
use Rattle.session_script.specs.declared.Fed.{Fed}
use Rattle.storage.proofs.create.Reads as Create
use Rattle.storage.proofs.set_remove_pseudo_root.Reads as SetRemovePseudoRoot
use Rattle.storage.proofs.initialized.Reads as Initialized
use Rattle.storage.proofs.options.Reads as Options
use Rattle.pseudo_fs.proofs.path_walk.Reads as PathWalk
use Rattle.vfs_query.proofs.lookup.Reads as Lookup
use Rattle.listing.proofs.readdir.Reads as Readdir
use Rattle.vfs.proofs.mounting.mount.Reads as Mount
use Rattle.vfs.proofs.restored_mounting.restore_mount.Reads as RestoreMount
use Rattle.vfs.proofs.unmounting.umount.Reads as Umount
use Rattle.vfs_query.proofs.get_rootfs.Reads as GetRootfs
use Rattle.vfs_query.proofs.route.Reads as Route
use Rattle.vfs_query.proofs.remap_attr_id.Reads as RemapAttrId
use Rattle.persist.proofs.saving.save_to_bytes.Reads as SaveToBytes
use Rattle.persist.proofs.state_restoring.restore_from_bytes.Reads as RestoreFromBytes
use Rattle.session_script.proofs.feed.Reads as Feed
use Rattle.session_script.proofs.finish.Reads as Finish
use Rattle.one_result.specs.OneResult.{Mem, creates, sets_removal, asks_initialized, asks_options, walks_path, looks_up, lists, mounts_path, restores_mount, unmounts_path, asks_rootfs, routes, remaps, saves, restores_state, feeds, finishes}

-- a reference to lent bytes, as a function takes it
abbrev pub LentMem : Type 0
LentMem = Bor Mem

-- the same, to bytes lent to be written
abbrev pub LentMutMem : Type 0
LentMutMem = MutBor Mem

-- of each call, for its parameters at entry, its answer r, and its parameters at exit, marked with a prime (R164)
pub record EveryOwnResult : Type 0 where
  pub create : (κs : Lfts 1) (s : LentMutMem) (n known : ℕ) (o : VfsOptions) (r : VfsResult (Unit {0})) (s' : LentMutMem) (n' known' : ℕ) (o' : VfsOptions)
      → Create.Post κs (s, (n, (known, (o, tt)))) r (s', (n', (known', (o', tt)))) → creates (s.now, n, known, o) (r, s'.now)
  pub set_remove_pseudo_root : (κs : Lfts 1) (s : LentMutMem) (r : VfsResult (Unit {0})) (s' : LentMutMem)
      → SetRemovePseudoRoot.Post κs (s, tt) r (s', tt) → sets_removal s.now (r, s'.now)
  pub initialized : (κs : Lfts 1) (s : LentMem) (r : VfsResult Bool) (s' : LentMem)
      → Initialized.Post κs (s, tt) r (s', tt) → asks_initialized s.now r
  pub options : (κs : Lfts 1) (s : LentMem) (r : VfsResult VfsOptions) (s' : LentMem)
      → Options.Post κs (s, tt) r (s', tt) → asks_options s.now r
  pub path_walk : (κs : Lfts 2) (s path : LentMem) (r : VfsResult (Option NodeNumber)) (s' path' : LentMem)
      → PathWalk.Post κs (s, (path, tt)) r (s', (path', tt)) → walks_path (s.now, path.now) r
  pub lookup : (κs : Lfts 2) (s : LentMem) (parent : NodeNumber) (name : LentMem) (r : VfsResult Entry) (s' : LentMem) (parent' : NodeNumber) (name' : LentMem)
      → Lookup.Post κs (s, (parent, (name, tt))) r (s', (parent', (name', tt))) → looks_up (s.now, parent, name.now) r
  pub readdir : (κs : Lfts 2) (s : LentMem) (node : NodeNumber) (size offset : ℕ) (out : LentMutMem) (r : VfsResult ℕ) (s' : LentMem) (node' : NodeNumber) (size' offset' : ℕ) (out' : LentMutMem)
      → Readdir.Post κs (s, (node, (size, (offset, (out, tt))))) r (s', (node', (size', (offset', (out', tt))))) → lists (s.now, node, size, offset, out.now) (r, out'.now)
  pub mount : (κs : Lfts 2) (s : LentMutMem) (path : LentMem) (b : Backend) (r : Result Mounted MountRefused) (s' : LentMutMem) (path' : LentMem) (b' : Backend)
      → Mount.Post κs (s, (path, (b, tt))) r (s', (path', (b', tt))) → mounts_path (s.now, path.now, b) (r, s'.now)
  pub restore_mount : (κs : Lfts 2) (s : LentMutMem) (k : ℕ) (path : LentMem) (b : Backend) (r : VfsResult RestoredMount) (s' : LentMutMem) (k' : ℕ) (path' : LentMem) (b' : Backend)
      → RestoreMount.Post κs (s, (k, (path, (b, tt)))) r (s', (k', (path', (b', tt)))) → restores_mount (s.now, k, path.now, b) (r, s'.now)
  pub umount : (κs : Lfts 2) (s : LentMutMem) (path : LentMem) (r : VfsResult Unmounted) (s' : LentMutMem) (path' : LentMem)
      → Umount.Post κs (s, (path, tt)) r (s', (path', tt)) → unmounts_path (s.now, path.now) (r, s'.now)
  pub get_rootfs : (κs : Lfts 2) (s path : LentMem) (r : VfsResult (Option Rootfs)) (s' path' : LentMem)
      → GetRootfs.Post κs (s, (path, tt)) r (s', (path', tt)) → asks_rootfs (s.now, path.now) r
  pub route : (κs : Lfts 1) (s : LentMem) (x : VfsInode) (r : VfsResult Routed) (s' : LentMem) (x' : VfsInode)
      → Route.Post κs (s, (x, tt)) r (s', (x', tt)) → routes (s.now, x) r
  pub remap_attr_id : (κs : Lfts 1) (s : LentMem) (uid gid : ℕ) (outward : Bool) (r : VfsResult Remapped) (s' : LentMem) (uid' gid' : ℕ) (outward' : Bool)
      → RemapAttrId.Post κs (s, (uid, (gid, (outward, tt)))) r (s', (uid', (gid', (outward', tt)))) → remaps (s.now, uid, gid, outward) r
  pub save_to_bytes : (κs : Lfts 2) (s : LentMem) (out : LentMutMem) (r : VfsResult ℕ) (s' : LentMem) (out' : LentMutMem)
      → SaveToBytes.Post κs (s, (out, tt)) r (s', (out', tt)) → saves (s.now, out.now) (r, out'.now)
  pub restore_from_bytes : (κs : Lfts 2) (s : LentMutMem) (b : LentMem) (r : VfsResult (Unit {0})) (s' : LentMutMem) (b' : LentMem)
      → RestoreFromBytes.Post κs (s, (b, tt)) r (s', (b', tt)) → restores_state (s.now, b.now) (r, s'.now)
  pub feed : (κs : Lfts 4) (s carry : LentMutMem) (kept : ℕ) (piece : LentMem) (out : LentMutMem) (r : VfsResult Fed) (s' carry' : LentMutMem) (kept' : ℕ) (piece' : LentMem) (out' : LentMutMem)
      → Feed.Post κs (s, (carry, (kept, (piece, (out, tt))))) r (s', (carry', (kept', (piece', (out', tt))))) → feeds (s.now, carry.now, kept, piece.now, out.now) (r, s'.now, carry'.now, out'.now)
  pub finish : (κs : Lfts 3) (s : LentMutMem) (carry : LentMem) (kept : ℕ) (out : LentMutMem) (r : VfsResult ℕ) (s' : LentMutMem) (carry' : LentMem) (kept' : ℕ) (out' : LentMutMem)
      → Finish.Post κs (s, (carry, (kept, (out, tt)))) r (s', (carry', (kept', (out', tt)))) → finishes (s.now, carry.now, kept, out.now) (r, s'.now, out'.now)
