-- Restored mount: what its answer tells, and the bytes that it leaves.
use Rattle.std.specs.Prelude.{ℕ, Bool, cond, not, ◌||◌, List, eqb, ltb, Result}
use Rattle.rules.specs.Numbers.{max_ino, NOROOM}
use Rattle.rules.specs.declared.codes.VfsError.{VfsError}
use Rattle.rules.specs.Utf8.{well_formed}
use Rattle.rules.specs.Path.{rooted, too_long}
use Rattle.rules.specs.Instance.{Instance}
use Rattle.rules.specs.Outcome.{restored_mount, Outcome, refused}
use Rattle.rules.specs.Mount.{Request, no_room, restore_mount_by_index}
use Rattle.tables.specs.View.{view}
use Rattle.tables.specs.Laid.{laid}
use Rattle.call_form.specs.Form.{Told, told_of}
use Rattle.mount_parts.specs.Mounting.{planned_mem, tags_placed, EndsAt}
use Rattle.mount_parts.specs.declared.backend.Backend.{Backend}
use Rattle.mount_parts.specs.declared.restored_mounting.RestoredMount.{RestoredMount}

-- the number and the values of each answer (R91 to R95)
abbrev pub restored_mount_told : Result RestoredMount VfsError → Told
restored_mount_told = told_of (λ (r : RestoredMount). restored_mount r.replaced r.displaced)

-- rows 7 and 8 on the node x: the tag replaced, and the tag displaced (R93)
abbrev pub RestoresMountAt : List ℕ → ℕ → ℕ → Backend → Result RestoredMount VfsError → List ℕ → Type 0
RestoresMountAt mem k x b r after =
    EndsAt mem k x b (restored_mount (tags_placed mem k x).replaced (tags_placed mem k x).displaced) 0 (restored_mount_told r) after

-- from row 4 on, of a path with leading slash (R71, R92 to R95)
abbrev pub restore_mount_rest : Instance → ℕ → Request → Outcome
restore_mount_rest i k r = cond (no_room i r.path) (refused NOROOM i) (restore_mount_by_index i k r)

-- and the bytes after them
unfoldable pub restore_mount_rest_mem : ℕ → Request → List ℕ → List ℕ
restore_mount_rest_mem k r mem = cond (no_room (view mem) r.path) mem (planned_mem k r mem)

-- rows 1, 2, BADINDEX, 3 and 6
unfoldable pub restore_mount_stopped : ℕ → Request → Bool
restore_mount_stopped k r = too_long r.path || not (well_formed r.path) || eqb k 0 || ltb max_ino r.largest || not (rooted r.path)

-- the bytes after a restored mount: every refusal but row 7's leaves every one
unfoldable pub restore_mount_mem : ℕ → Request → List ℕ → List ℕ
restore_mount_mem k r mem = cond (laid mem) (cond (restore_mount_stopped k r) mem (restore_mount_rest_mem k r mem)) mem
