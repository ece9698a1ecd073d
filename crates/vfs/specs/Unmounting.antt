-- Unmount: what its answer tells, and the bytes that it leaves.
use Rattle.std.specs.Prelude.{ℕ, cond, List, Option, None, Some, Result}
use Rattle.rules.specs.declared.codes.VfsError.{VfsError}
use Rattle.rules.specs.Tree.{Mount}
use Rattle.rules.specs.Instance.{mount_of_node}
use Rattle.rules.specs.Outcome.{unmounted}
use Rattle.rules.specs.Reached.{bad_path, reached, reached_mount}
use Rattle.rules.specs.Unmount.{unmount_at}
use Rattle.tables.specs.View.{view}
use Rattle.tables.specs.Laid.{laid}
use Rattle.call_form.specs.Form.{Told, told_of}
use Rattle.placing.specs.Place.{take_off_mem}
use Rattle.mount_parts.specs.Follows.{Follows}
use Rattle.vfs.specs.declared.unmounting.Unmounted.{Unmounted}

-- the number and the values of each answer (R97)
abbrev pub unmounted_told : Result Unmounted VfsError → Told
unmounted_told = told_of (λ (u : Unmounted). unmounted u.node.0 u.parent.0 u.released)

-- the bytes after, by the node and the mount on it: where there is none, as they were
unfoldable pub off_mem : Option ℕ → Option Mount → List ℕ → List ℕ
off_mem None m mem = mem
off_mem (Some x) None mem = mem
off_mem (Some x) (Some m) mem = take_off_mem m x mem

-- the bytes after an unmount: a refusal leaves every one
unfoldable pub unmount_mem : List ℕ → List ℕ → List ℕ
unmount_mem path mem =
    cond (laid mem) (cond (bad_path path) mem (off_mem (reached (view mem) path) (reached_mount (view mem) (reached (view mem) path)) mem)) mem

-- the unmount of the node x, as it is told, and the bytes after (R96 to R100)
abbrev pub Unmounts : List ℕ → ℕ → Result Unmounted VfsError → List ℕ → Type 0
Unmounts mem x r after =
    Follows (unmount_at (view mem) (Some x) (mount_of_node (view mem).tree x)) (off_mem (Some x) (mount_of_node (view mem).tree x) mem) (unmounted_told r) after
