-- The plain numbers of each answer: its number, its values in a fixed order with zeros where it has none, and the count.
use Rattle.std.specs.Prelude.{ℕ, List, [], ◌∷◌, get_or, Option, None, Some, Result}
use Rattle.rules.specs.Numbers.{or_zero}
use Rattle.rules.specs.Outcome.{Answer, nothing, mounted, restored_mount, unmounted, walked, rootfs, to_tree, to_backend, entry, ids, wrote, settings, truth}
use Rattle.tables.specs.Write.{yes_byte}
use Rattle.rules.specs.declared.codes.VfsError.{VfsError}
use Rattle.call_form.specs.Form.{Told, told_of}
use Rattle.flat.specs.declared.CodeAnswer.{CodeAnswer}
use Rattle.flat.specs.declared.InitializedAnswer.{InitializedAnswer}
use Rattle.flat.specs.declared.OptionsAnswer.{OptionsAnswer}
use Rattle.flat.specs.declared.MountAnswer.{MountAnswer}
use Rattle.flat.specs.declared.RestoreMountAnswer.{RestoreMountAnswer}
use Rattle.flat.specs.declared.UmountAnswer.{UmountAnswer}
use Rattle.flat.specs.declared.RootfsAnswer.{RootfsAnswer}
use Rattle.flat.specs.declared.WalkAnswer.{WalkAnswer}
use Rattle.flat.specs.declared.RouteAnswer.{RouteAnswer}
use Rattle.flat.specs.declared.LookupAnswer.{LookupAnswer}
use Rattle.flat.specs.declared.WroteAnswer.{WroteAnswer}
use Rattle.flat.specs.declared.IdsAnswer.{IdsAnswer}
use Rattle.flat.specs.declared.InodeAnswer.{InodeAnswer}

-- ---- values

-- whether there is one: "none" is told from 0 by this (R16)
abbrev pub has : Option ℕ → ℕ
has None = 0
has (Some x) = 1

-- the numbers of each answer's values, in order; a refusal has none, and a place behind the last counts as 0 (R16)
abbrev pub plain_numbers : Answer → List ℕ
plain_numbers nothing = []
plain_numbers (mounted k t) = k ∷ has t ∷ or_zero t ∷ []
plain_numbers (restored_mount a d) = has a ∷ or_zero a ∷ has d ∷ or_zero d ∷ []
plain_numbers (unmounted x p t) = x ∷ p ∷ has t ∷ or_zero t ∷ []
plain_numbers (walked x) = has x ∷ or_zero x ∷ []
plain_numbers (rootfs None) = []
plain_numbers (rootfs (Some b)) = 1 ∷ b.0 ∷ b.1 ∷ []
plain_numbers (to_tree x) = 0 ∷ 0 ∷ 0 ∷ x ∷ []
plain_numbers (to_backend t k x) = 1 ∷ t ∷ k ∷ x ∷ []
plain_numbers (entry x m u g b) = x ∷ m ∷ u ∷ g ∷ b ∷ []
plain_numbers (ids u g) = u ∷ g ∷ []
plain_numbers (wrote n) = n ∷ []
plain_numbers (settings o) = o.in_opts ∷ o.out_opts ∷ o.mapping.internal ∷ o.mapping.external ∷ o.mapping.range ∷ o.flags ∷ []
plain_numbers (truth b) = yes_byte b ∷ []

-- the value at a place
abbrev pub plain_number : Told → ℕ → ℕ
plain_number t k = get_or (plain_numbers t.answer) k 0

-- ---- calls that are done or refused

-- what it answers: a value, or why it is refused
abbrev pub VfsResult : Type 0 → Type 0
VfsResult T = Result T VfsError

-- what one tells that writes bytes: how many (R66, R125)
abbrev pub wrote_told : VfsResult ℕ → Told
wrote_told = told_of wrote

-- ---- answers

-- the number of the answer alone (R15)
abbrev pub code_alone : ℕ → CodeAnswer
code_alone code = record { code = code }

-- of an answer without values (R15)
abbrev pub code_numbers : Told → CodeAnswer
code_numbers t = code_alone t.code

-- whether it is initialized (R33)
abbrev pub initialized_numbers : Told → InitializedAnswer
initialized_numbers t = record { code = t.code; initialized = plain_number t 0 }

-- the options, with their own mapping (R27, R33, R34)
abbrev pub options_numbers : Told → OptionsAnswer
options_numbers t = record { code = t.code; flags = plain_number t 5; in_opts = plain_number t 0; out_opts = plain_number t 1; internal = plain_number t 2; external = plain_number t 3; range = plain_number t 4 }

-- the index, the count, and the tag replaced or none (R75, R79)
abbrev pub mount_numbers : Told → MountAnswer
mount_numbers t = record { code = t.code; fs_idx = plain_number t 0; count = t.count; has_replaced = plain_number t 1; replaced = plain_number t 2 }

-- the tag replaced or none, the tag displaced or none (R93)
abbrev pub restore_mount_numbers : Told → RestoreMountAnswer
restore_mount_numbers t = record { code = t.code; has_replaced = plain_number t 0; replaced = plain_number t 1; has_displaced = plain_number t 2; displaced = plain_number t 3 }

-- node, parent, and the tag released or none (R97)
abbrev pub umount_numbers : Told → UmountAnswer
umount_numbers t = record { code = t.code; has_released = plain_number t 2; node = plain_number t 0; parent = plain_number t 1; released = plain_number t 3 }

-- tag and index, or none (R103, R104)
abbrev pub rootfs_numbers : Told → RootfsAnswer
rootfs_numbers t = record { code = t.code; has_backend = plain_number t 0; tag = plain_number t 1; fs_idx = plain_number t 2 }

-- the node, or none (R47)
abbrev pub walk_numbers : Told → WalkAnswer
walk_numbers t = record { code = t.code; has_node = plain_number t 0; node = plain_number t 1 }

-- the tree, or a backend (R105, R106)
abbrev pub route_numbers : Told → RouteAnswer
route_numbers t = record { code = t.code; to_backend = plain_number t 0; tag = plain_number t 1; fs_idx = plain_number t 2; number = plain_number t 3 }

-- the entry found (R13, R108, R109)
abbrev pub lookup_numbers : Told → LookupAnswer
lookup_numbers t = record { code = t.code; mode = plain_number t 1; inode = plain_number t 0; uid = plain_number t 2; gid = plain_number t 3; blksize = plain_number t 4 }

-- how many bytes (R66, R125)
abbrev pub wrote_numbers : Told → WroteAnswer
wrote_numbers t = record { code = t.code; written = plain_number t 0 }

-- uid and gid (R118)
abbrev pub ids_numbers : Told → IdsAnswer
ids_numbers t = record { code = t.code; uid = plain_number t 0; gid = plain_number t 1 }

-- the full number, or none (R7)
abbrev pub inode_numbers : ℕ → Option ℕ → InodeAnswer
inode_numbers code x = record { code = code; inode = or_zero x }
