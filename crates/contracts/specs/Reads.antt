-- What a host reads in the plain numbers of an answer: its number, and its values where it is done.
use Rattle.std.specs.Prelude.{ℕ, cond, not, eqb, Option, None, Some}
use Rattle.rules.specs.Numbers.{DONE}
use Rattle.rules.specs.Outcome.{Answer, nothing, mounted, restored_mount, unmounted, walked, rootfs, to_tree, to_backend, entry, ids, wrote, settings, truth}
use Rattle.call_form.specs.Form.{Told}
use Rattle.flat.specs.declared.CodeAnswer.{CodeAnswer}
use Rattle.flat.specs.declared.InitializedAnswer.{InitializedAnswer}
use Rattle.flat.specs.declared.OptionsAnswer.{OptionsAnswer}
use Rattle.flat.specs.declared.MountAnswer.{MountAnswer}
use Rattle.flat.specs.declared.RestoreMountAnswer.{RestoreMountAnswer}
use Rattle.flat.specs.declared.UmountAnswer.{UmountAnswer}
use Rattle.flat.specs.declared.RootfsAnswer.{RootfsAnswer}
use Rattle.flat.specs.declared.WalkAnswer.{WalkAnswer}
use Rattle.flat.specs.declared.RouteAnswer.{RouteAnswer}
use Rattle.flat.specs.declared.LookupAnswer.{LookupAnswer}
use Rattle.flat.specs.declared.WroteAnswer.{WroteAnswer}
use Rattle.flat.specs.declared.IdsAnswer.{IdsAnswer}
use Rattle.rules.specs.Ids.{mapping_by}

-- a value where the field before it is not 0, else none (R16)
abbrev pub value_if : {A : Type 0} → ℕ → A → Option A
value_if has x = cond (eqb has 0) None (Some x)

-- the number, the values where it is DONE and none else, and the count (R15, R16)
abbrev pub read_as : ℕ → Answer → ℕ → Told
read_as code a n = record { code = code; answer = cond (eqb code DONE) a nothing; count = n }

-- of an answer without values (R15)
abbrev pub code_read : CodeAnswer → Told
code_read r = read_as r.code nothing 0

-- whether it is initialized (R33)
abbrev pub initialized_read : InitializedAnswer → Told
initialized_read r = read_as r.code (truth (not (eqb r.initialized 0))) 0

-- the options, with their own mapping (R27, R33, R34)
abbrev pub options_read : OptionsAnswer → Told
options_read r =
    read_as r.code (settings (record { in_opts = r.in_opts; out_opts = r.out_opts; mapping = mapping_by r.internal r.external r.range; flags = r.flags })) 0

-- the index, the tag replaced or none, and the count, which a refusal has too (R75, R79)
abbrev pub mount_read : MountAnswer → Told
mount_read r = read_as r.code (mounted r.fs_idx (value_if r.has_replaced r.replaced)) r.count

-- the tag replaced or none, the tag displaced or none (R93)
abbrev pub restore_mount_read : RestoreMountAnswer → Told
restore_mount_read r = read_as r.code (restored_mount (value_if r.has_replaced r.replaced) (value_if r.has_displaced r.displaced)) 0

-- node, parent, and the tag released or none (R97)
abbrev pub umount_read : UmountAnswer → Told
umount_read r = read_as r.code (unmounted r.node r.parent (value_if r.has_released r.released)) 0

-- tag and index, or none (R103, R104)
abbrev pub rootfs_read : RootfsAnswer → Told
rootfs_read r = read_as r.code (rootfs (value_if r.has_backend (r.tag, r.fs_idx))) 0

-- the node, or none (R47)
abbrev pub walk_read : WalkAnswer → Told
walk_read r = read_as r.code (walked (value_if r.has_node r.node)) 0

-- the tree, or a backend (R105, R106)
abbrev pub route_read : RouteAnswer → Told
route_read r = read_as r.code (cond (eqb r.to_backend 0) (to_tree r.number) (to_backend r.tag r.fs_idx r.number)) 0

-- the entry found (R13, R108, R109)
abbrev pub lookup_read : LookupAnswer → Told
lookup_read r = read_as r.code (entry r.inode r.mode r.uid r.gid r.blksize) 0

-- how many bytes (R66, R125)
abbrev pub wrote_read : WroteAnswer → Told
wrote_read r = read_as r.code (wrote r.written) 0

-- uid and gid (R118)
abbrev pub ids_read : IdsAnswer → Told
ids_read r = read_as r.code (ids r.uid r.gid) 0
