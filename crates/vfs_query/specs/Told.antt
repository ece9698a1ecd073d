-- What the answers of the calls tell, by number and values; and the root entry as the code makes it.
use Rattle.std.specs.Prelude.{Option, option_map, Result}
use Rattle.rules.specs.Numbers.{or_zero, convert}
use Rattle.rules.specs.declared.codes.VfsError.{VfsError}
use Rattle.rules.specs.Tree.{Mount}
use Rattle.rules.specs.Instance.{Instance}
use Rattle.rules.specs.Lookup.{twice}
use Rattle.rules.specs.Outcome.{Answer, rootfs, to_tree, to_backend, entry, ids}
use Rattle.call_form.specs.Form.{Told, told_of}
use Rattle.pseudo_fs.specs.Told.{entry_answer}
use Rattle.pseudo_fs.specs.declared.Entry.{Entry}
use Rattle.vfs_query.specs.declared.Routed.{Routed}
use Rattle.vfs_query.specs.declared.Routed.TheVariants.{Tree, Backend}
use Rattle.vfs_query.specs.declared.Rootfs.{Rootfs}
use Rattle.vfs_query.specs.declared.Remapped.{Remapped}

-- the values of a number that is routed (R105, R106)
abbrev pub route_answer : Routed → Answer
route_answer (Tree x) = to_tree x.0
route_answer (Backend tag index number) = to_backend tag index number.0

-- of a backend, or none (R103)
abbrev pub rootfs_answer : Option Rootfs → Answer
rootfs_answer r = rootfs (option_map (λ (b : Rootfs). (b.tag, b.fs_idx)) r)

-- of ids (R118)
abbrev pub ids_answer : Remapped → Answer
ids_answer r = ids r.uid r.gid

-- of routing (R105, R106)
abbrev pub routed_told : Result Routed VfsError → Told
routed_told = told_of route_answer

-- of the root query (R103, R104)
abbrev pub rootfs_told : Result (Option Rootfs) VfsError → Told
rootfs_told = told_of rootfs_answer

-- of ids by the mapping in force (R118)
abbrev pub remapped_told : Result Remapped VfsError → Told
remapped_told = told_of ids_answer

-- of a lookup (R57, R59)
abbrev pub looked_told : Result Entry VfsError → Told
looked_told = told_of entry_answer

-- the root entry of any mount (R7, R108, R109)
unfoldable pub root_answer : Instance → Mount → Answer
root_answer i m = entry (or_zero (convert m.index m.root)) m.mode (twice i m.uid) (twice i m.gid) 0
