-- What a line shows of an answer is among the plain numbers that `flat` makes of it. Assumes nothing.
use Prim.Native.Nat.{ℕ, ◌<◌}
use native.Mathlib.Omega.{arith}
use mathlib.Core.Path.{◌≡◌, refl}
use mathlib.Core.List.{List, [], ◌∷◌}
use Rattle.rules.specs.Session.{text_of, values, shown}
use Rattle.decimal.specs.declared.inner.Text.{Text}
use Rattle.decimal.specs.Text.{Appended}
use Rattle.decimal.proofs.Texts.{appended_as}
use Rattle.std.specs.Prelude.{Option, Some, None, Result, Ok, Err}
use Rattle.inode.specs.declared.NodeNumber.{NodeNumber}
use Rattle.rules.specs.Codes.{code_of}
use Rattle.rules.specs.declared.codes.VfsError.{VfsError}
use Rattle.rules.specs.declared.codes.VfsError.TheVariants.{NoEnt, Inval, TooLong, Inode, Full, NoRoom, NotFound, BadIndex, BadMap, BadSave, NotFresh, Small, BadOpt}
use Rattle.pseudo_fs.specs.Told.{path_walk_told, entry_answer}
use Rattle.vfs_query.specs.Told.{looked_told}
use Rattle.pseudo_fs.specs.declared.Entry.{Entry}
use Rattle.mount_parts.specs.Mounting.{mounted_told}
use Rattle.mount_parts.specs.declared.mounting.Mounted.{Mounted}
use Rattle.mount_parts.specs.declared.mounting.MountRefused.{MountRefused}
use Rattle.vfs.specs.Unmounting.{unmounted_told}
use Rattle.vfs.specs.declared.unmounting.Unmounted.{Unmounted}
use Rattle.flat.specs.Flat.{mount_numbers, umount_numbers, walk_numbers, lookup_numbers}
use Rattle.flat.specs.declared.MountAnswer.{MountAnswer}
use Rattle.flat.specs.declared.UmountAnswer.{UmountAnswer}
use Rattle.flat.specs.declared.WalkAnswer.{WalkAnswer}
use Rattle.flat.specs.declared.LookupAnswer.{LookupAnswer}
use Rattle.session_text.specs.Texts.{values_text, count_text}

-- the number of an answer has one byte, and a text of its numbers is the line's
pub record Shows (code : ℕ) (ns text : List ℕ) : Type 0 where
  pub small : code < 256
  pub same : text_of (code ∷ ns) ≡ text

-- the number of a refusal has one byte
code_small : (e : VfsError) → code_of e < 256
code_small NoEnt = omega arith
code_small Inval = omega arith
code_small TooLong = omega arith
code_small Inode = omega arith
code_small Full = omega arith
code_small NoRoom = omega arith
code_small NotFound = omega arith
code_small BadIndex = omega arith
code_small BadMap = omega arith
code_small BadSave = omega arith
code_small NotFresh = omega arith
code_small Small = omega arith
code_small BadOpt = omega arith

-- ---- mount: index and count

pub mount_of : (a : Result Mounted MountRefused) (m : MountAnswer) → m ≡ mount_numbers (mounted_told a) → Shows m.code (m.fs_idx ∷ m.count ∷ []) (count_text (mounted_told a))
unfolding count_text values shown
mount_of (Ok a) m e = rw e (record { small = omega arith; same = refl })
mount_of (Err r) m e = rw e (record { small = code_small r.why; same = refl })

-- ---- unmount: node and parent

pub umount_of : (a : Result Unmounted VfsError) (m : UmountAnswer) → m ≡ umount_numbers (unmounted_told a) → Shows m.code (m.node ∷ m.parent ∷ []) (values_text 2 (unmounted_told a))
unfolding values_text values shown
umount_of (Ok a) m e = rw e (record { small = omega arith; same = refl })
umount_of (Err r) m e = rw e (record { small = code_small r; same = refl })

-- ---- walk: node

pub walk_of : (a : Result (Option NodeNumber) VfsError) (m : WalkAnswer) → m ≡ walk_numbers (path_walk_told a) → Shows m.code (m.node ∷ []) (values_text 1 (path_walk_told a))
unfolding values_text values shown
walk_of (Ok None) m e = rw e (record { small = omega arith; same = refl })
walk_of (Ok (Some x)) m e = rw e (record { small = omega arith; same = refl })
walk_of (Err r) m e = rw e (record { small = code_small r; same = refl })

-- ---- lookup: full number

pub lookup_of : (a : Result Entry VfsError) (m : LookupAnswer) → m ≡ lookup_numbers (looked_told a) → Shows m.code (m.inode ∷ []) (values_text 1 (looked_told a))
unfolding entry_answer values_text values shown
lookup_of (Ok x) m e = rw e (record { small = omega arith; same = refl })
lookup_of (Err r) m e = rw e (record { small = code_small r; same = refl })

-- the text that is laid down is the line's
pub shows : {code : ℕ} {ns text : List ℕ} → Shows code ns text → {l m : Text} {k : ℕ} → Appended l k (text_of (code ∷ ns)) m → Appended l k text m
shows s w = appended_as (omega arith) s.same w
