-- What the answers of the calls tell, by number and values; the first fault of a path; and the pseudo entry as the code makes it.
use Rattle.std.specs.Prelude.{ℕ, cond, not, List, [], ◌∷◌, ◌≡◌, Option, None, Some, option_map, Result}
use Rattle.rules.specs.Numbers.{dir_mode, block_size, or_zero, convert, DONE, INVAL}
use Rattle.rules.specs.declared.codes.VfsError.{VfsError}
use Rattle.rules.specs.Utf8.{well_formed}
use Rattle.rules.specs.Path.{rooted}
use Rattle.rules.specs.Ids.{wrapped}
use Rattle.rules.specs.Reached.{bad_path}
use Rattle.rules.specs.Instance.{Instance}
use Rattle.rules.specs.Outcome.{Answer, walked, entry, ◌⟹◌, first_of}
use Rattle.call_form.specs.Form.{Told, told_of}
use Rattle.inode.specs.declared.NodeNumber.{NodeNumber}
use Rattle.pseudo_fs.specs.declared.PathFault.{PathFault}
use Rattle.pseudo_fs.specs.declared.PathFault.TheVariants.{Utf8, Slash}
use Rattle.pseudo_fs.specs.declared.Entry.{Entry}

-- UTF-8 is tested first, then the leading slash (R36)
unfoldable pub fault_of : List ℕ → Option PathFault
fault_of path = first_of ((not (well_formed path) ⟹ Some Utf8) ∷ (not (rooted path) ⟹ Some Slash) ∷ []) None

-- the number of a fault: either is INVAL (R15, R36)
unfoldable pub fault_code : Option PathFault → ℕ
fault_code (Some Utf8) = INVAL
fault_code (Some Slash) = INVAL
fault_code None = DONE

-- so the first fault has the number that the rule of a walk, of an unmount and of a root query answers (R36, R43)
abbrev pub EveryFault : Type 0
EveryFault = (path : List ℕ) → fault_code (fault_of path) ≡ cond (bad_path path) INVAL DONE

-- ---- numbers and values

-- of a walk (R47)
abbrev pub path_walk_told : Result (Option NodeNumber) VfsError → Told
path_walk_told = told_of (λ (x : Option NodeNumber). walked (option_map (λ (n : NodeNumber). n.0) x))

-- of an entry (R13)
unfoldable pub entry_answer : Entry → Answer
entry_answer e = entry e.inode.0 e.mode e.uid e.gid e.blksize

-- ---- the pseudo entry

-- of any number, with any mapping in force (R7, R13, R118)
unfoldable pub pseudo_answer : Instance → ℕ → Answer
pseudo_answer i x = entry (or_zero (convert 0 x)) dir_mode (wrapped i.fixed.mapping 0) (wrapped i.fixed.mapping 0) block_size
