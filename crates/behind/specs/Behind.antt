-- Bytes behind those of an instance: no answer depends on them, and no call changes them (R23).
use Rattle.std.specs.Prelude.{true, List, ◌++◌, ◌≡◌, ℕ, ◌≤◌, ◌<◌, length, take}
use Rattle.rules.specs.Bytes.{Bytes}
use Rattle.rules.specs.Numbers.{storage_for}
use Rattle.rules.specs.Create.{Creation}
use Rattle.rules.specs.Mount.{Request}
use Rattle.tables.specs.Layout.{capacity_of}
use Rattle.tables.specs.View.{view}
use Rattle.tables.specs.Laid.{laid}
use Rattle.tables.specs.Write.{set_removal}
use Rattle.storage.specs.Creation.{create_mem}
use Rattle.mount_parts.specs.Mounting.{mount_mem}
use Rattle.mount_parts.specs.RestoredMounting.{restore_mount_mem}
use Rattle.vfs.specs.Unmounting.{unmount_mem}
use Rattle.persist.specs.StateRestoring.{restore_state_mem}

-- with a rest behind them, bytes change as they do without, and the rest stays
abbrev pub LeavesRest : (List ℕ → List ℕ) → List ℕ → List ℕ → Type 0
LeavesRest f mem rest = f (mem ++ rest) ≡ f mem ++ rest

-- bytes that keep the layout rule, with any rest behind them: they keep it, they stand for the same instance, and each call that writes leaves the rest
pub record ApartFromRest (mem rest : List ℕ) : Type 0 where
  pub keeps : laid (mem ++ rest) ≡ true
  pub stands : view (mem ++ rest) ≡ view mem
  pub removal : LeavesRest set_removal mem rest
  pub mount : (r : Request) → LeavesRest (mount_mem r) mem rest
  pub restored_mount_lem : (k : ℕ) (r : Request) → k < 256 → LeavesRest (restore_mount_mem k r) mem rest
  pub unmount : (path : List ℕ) → LeavesRest (unmount_mem path) mem rest
  pub state : (saved : List ℕ) → LeavesRest (restore_state_mem saved) mem rest

-- the first 512 × N + 8,192 bytes of a storage keep the layout rule by themselves (R20, R23)
abbrev pub EveryStorage : Type 0
EveryStorage = (s : List ℕ) → laid s ≡ true → laid (take (storage_for (capacity_of s)) s) ≡ true

-- so it is of every instance in bytes (R23)
abbrev pub EveryInstance : Type 0
EveryInstance = (mem rest : List ℕ) → Bytes mem → laid mem ≡ true → ApartFromRest mem rest

-- and of a creation on bytes enough for it (R23, R26)
abbrev pub EveryCreation : Type 0
EveryCreation = (q : Creation) (mem rest : List ℕ) → storage_for q.capacity ≤ length mem → LeavesRest (create_mem q) mem rest
