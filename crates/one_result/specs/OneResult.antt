-- Each call that takes storage has one result: any two that its contract allows on one input are equal (R164).
use Rattle.std.specs.Prelude.{ℕ, Bool, cond, List, ◌≡◌, Option, Result}
use Rattle.rules.specs.Instance.{Instance}
use Rattle.rules.specs.Mount.{mount_rule, restore_mount_rule}
use Rattle.rules.specs.Reached.{walk_rule}
use Rattle.rules.specs.Unmount.{unmount_rule}
use Rattle.rules.specs.Rootfs.{root_rule}
use Rattle.rules.specs.Lookup.{route_rule, lookup_rule, remap_rule}
use Rattle.inode.specs.declared.VfsInode.{VfsInode}
use Rattle.inode.specs.declared.NodeNumber.{NodeNumber}
use Rattle.tables.specs.Laid.{laid}
use Rattle.tables.specs.Write.{set_removal}
use Rattle.call_form.specs.Form.{answered_by, Does}
use Rattle.storage.specs.Creation.{creation_of, created_code, Creates}
use Rattle.storage.specs.Answers.{remove_call, initialized_call, options_call, removal_told, initialized_told, options_told}
use Rattle.vfs_options.specs.declared.VfsOptions.{VfsOptions}
use Rattle.pseudo_fs.specs.Told.{path_walk_told}
use Rattle.pseudo_fs.specs.declared.Entry.{Entry}
use Rattle.listing.specs.Listed.{Lists}
use Rattle.vfs_query.specs.Told.{routed_told, rootfs_told, remapped_told, looked_told}
use Rattle.vfs_query.specs.declared.Routed.{Routed}
use Rattle.vfs_query.specs.declared.Rootfs.{Rootfs}
use Rattle.vfs_query.specs.declared.Remapped.{Remapped}
use Rattle.mount_parts.specs.Mounting.{request_of, mounted_told, mount_mem}
use Rattle.mount_parts.specs.RestoredMounting.{restored_mount_told, restore_mount_mem}
use Rattle.vfs.specs.Unmounting.{unmounted_told, unmount_mem}
use Rattle.mount_parts.specs.declared.backend.Backend.{Backend}
use Rattle.mount_parts.specs.declared.mounting.Mounted.{Mounted}
use Rattle.mount_parts.specs.declared.mounting.MountRefused.{MountRefused}
use Rattle.mount_parts.specs.declared.restored_mounting.RestoredMount.{RestoredMount}
use Rattle.vfs.specs.declared.unmounting.Unmounted.{Unmounted}
use Rattle.persist.specs.Saving.{Saves}
use Rattle.persist.specs.StateRestoring.{RestoresState}
use Rattle.flat.specs.Flat.{VfsResult}
use Rattle.session_script.specs.Feed.{Feeds, Finishes}
use Rattle.session_script.specs.declared.Fed.{Fed}

-- any two results that a contract allows on one input are equal (R164)
abbrev pub OneOf : {I R : Type 0} → (I → R → Type 0) → Type 0
OneOf {I} {R} contract = (i : I) (r t : R) → contract i r → contract i t → r ≡ t

-- lent bytes
abbrev pub Mem : Type 0
Mem = List ℕ

-- ---- the contracts, each as the `ensures` of its function has it: the input, with s the storage; then the answer, with the lent bytes as the call leaves them

-- creation (R26 to R34)
abbrev pub creates : (Mem × ℕ × ℕ × VfsOptions) → (VfsResult (Unit {0}) × Mem) → Type 0
creates (s, n, known, o) (r, after) = Creates s (creation_of n known o) (created_code r) after

-- the setting of `remove_pseudo_root` (R32)
abbrev pub sets_removal : Mem → (VfsResult (Unit {0}) × Mem) → Type 0
sets_removal s (r, after) = Does s remove_call (removal_told r) after (cond (laid s) (set_removal s) s)

-- the query of `initialized` (R33)
abbrev pub asks_initialized : Mem → VfsResult Bool → Type 0
asks_initialized s r = initialized_told r ≡ answered_by s initialized_call

-- the query of the options (R33)
abbrev pub asks_options : Mem → VfsResult VfsOptions → Type 0
asks_options s r = options_told r ≡ answered_by s options_call

-- the walk along a path (R46, R47)
abbrev pub walks_path : (Mem × Mem) → VfsResult (Option NodeNumber) → Type 0
walks_path (s, path) r = path_walk_told r ≡ answered_by s (λ (i : Instance). walk_rule i path)

-- a lookup (R57 to R59, R108, R109)
abbrev pub looks_up : (Mem × NodeNumber × Mem) → VfsResult Entry → Type 0
looks_up (s, parent, name) r = looked_told r ≡ answered_by s (λ (i : Instance). lookup_rule i parent.0 name)

-- a listing, with the lent output (R63 to R66)
abbrev pub lists : (Mem × NodeNumber × ℕ × ℕ × Mem) → (VfsResult ℕ × Mem) → Type 0
lists (s, node, size, offset, out) (r, left) = Lists s node.0 size offset out r left

-- a mount (R68 to R79)
abbrev pub mounts_path : (Mem × Mem × Backend) → (Result Mounted MountRefused × Mem) → Type 0
mounts_path (s, path, b) (r, after) = Does s (λ (i : Instance). mount_rule i (request_of path b)) (mounted_told r) after (mount_mem (request_of path b) s)

-- a restored mount (R91 to R95)
abbrev pub restores_mount : (Mem × ℕ × Mem × Backend) → (VfsResult RestoredMount × Mem) → Type 0
restores_mount (s, fs_idx, path, b) (r, after) =
    Does s (λ (i : Instance). restore_mount_rule i fs_idx (request_of path b)) (restored_mount_told r) after (restore_mount_mem fs_idx (request_of path b) s)

-- an unmount (R96 to R100)
abbrev pub unmounts_path : (Mem × Mem) → (VfsResult Unmounted × Mem) → Type 0
unmounts_path (s, path) (r, after) = Does s (λ (i : Instance). unmount_rule i path) (unmounted_told r) after (unmount_mem path s)

-- the root query (R103, R104)
abbrev pub asks_rootfs : (Mem × Mem) → VfsResult (Option Rootfs) → Type 0
asks_rootfs (s, path) r = rootfs_told r ≡ answered_by s (λ (i : Instance). root_rule i path)

-- routing (R105, R106)
abbrev pub routes : (Mem × VfsInode) → VfsResult Routed → Type 0
routes (s, x) r = routed_told r ≡ answered_by s (λ (i : Instance). route_rule i x.0)

-- ids by the mapping in force (R118)
abbrev pub remaps : (Mem × ℕ × ℕ × Bool) → VfsResult Remapped → Type 0
remaps (s, uid, gid, outward) r = remapped_told r ≡ answered_by s (λ (i : Instance). remap_rule i outward uid gid)

-- a save, with the lent output (R125)
abbrev pub saves : (Mem × Mem) → (VfsResult ℕ × Mem) → Type 0
saves (s, out) (r, left) = Saves s out r left

-- a restore of the saved bytes b (R128)
abbrev pub restores_state : (Mem × Mem) → (VfsResult (Unit {0}) × Mem) → Type 0
restores_state (s, b) (r, after) = RestoresState s b r after

-- a feed, with the carry and the lent output (R137, R150, R151)
abbrev pub feeds : (Mem × Mem × ℕ × Mem × Mem) → (VfsResult Fed × Mem × Mem × Mem) → Type 0
feeds (s, carry, kept, piece, out) (r, after, carried, left) = Feeds s carry kept piece out r after carried left

-- the end of the input, with the lent output (R151)
abbrev pub finishes : (Mem × Mem × ℕ × Mem) → (VfsResult ℕ × Mem × Mem) → Type 0
finishes (s, carry, kept, out) (r, after, left) = Finishes s carry kept out r after left

-- ---- the claim

-- of every call that takes storage (R164)
pub record OneResult : Type 0 where
  pub create : OneOf creates
  pub set_remove_pseudo_root : OneOf sets_removal
  pub initialized : OneOf asks_initialized
  pub options : OneOf asks_options
  pub path_walk : OneOf walks_path
  pub lookup : OneOf looks_up
  pub readdir : OneOf lists
  pub mount : OneOf mounts_path
  pub restore_mount : OneOf restores_mount
  pub umount : OneOf unmounts_path
  pub get_rootfs : OneOf asks_rootfs
  pub route : OneOf routes
  pub remap_attr_id : OneOf remaps
  pub save_to_bytes : OneOf saves
  pub restore_from_bytes : OneOf restores_state
  pub feed : OneOf feeds
  pub finish : OneOf finishes
