-- Demand 1 of the bytes: what a refused call on the mount tables leaves of the lent storage, by the number and the count that it tells, and of a restored mount by the number and its largest number.
use Rattle.std.specs.Prelude.{ℕ, ◌+◌, ◌%◌, ◌≤◌, ◌<◌, List, ◌≡◌}
use Rattle.rules.specs.Numbers.{max_ino, INODE}
use Rattle.rules.specs.Instance.{counter_of}
use Rattle.rules.specs.Mount.{Request, mount_rule, restore_mount_rule}
use Rattle.rules.specs.Unmount.{unmount_rule}
use Rattle.tables.specs.View.{view}
use Rattle.tables.specs.Write.{set_counter}
use Rattle.call_form.specs.Form.{Told, answered_by}
use Rattle.mount_parts.specs.Mounting.{walk_mem, mount_mem}
use Rattle.mount_parts.specs.RestoredMounting.{restore_mount_mem}
use Rattle.vfs.specs.Unmounting.{unmount_mem}

-- the counter has moved by a count (R83)
abbrev pub moved_mem : ℕ → List ℕ → List ℕ
moved_mem n mem = set_counter ((counter_of (view mem) + n) % 256) mem

-- a mount: every byte where nothing was visited (rows 1 to 4, and SMALL); else the counter (rows 5 and 6), and by row 7 the nodes made besides (R19, R68 to R74)
pub record MountLeaves (r : Request) (mem : List ℕ) (t : Told) (after : List ℕ) : Type 0 where
  pub unvisited : (t.code ≡ 0 → ⊥) → t.count ≡ 0 → after ≡ mem
  pub visited : (t.code ≡ 0 → ⊥) → (t.code ≡ INODE → ⊥) → 0 < t.count → after ≡ moved_mem t.count mem
  pub row7 : t.code ≡ INODE → 0 < t.count → after ≡ walk_mem r.path (moved_mem t.count mem)

-- a restored mount: every byte, but by row 7 the nodes made; INODE is row 3 where the largest number is too large, else row 7 (R91, R92)
pub record RestoredMountLeaves (r : Request) (mem : List ℕ) (t : Told) (after : List ℕ) : Type 0 where
  pub most : (t.code ≡ 0 → ⊥) → (t.code ≡ INODE → ⊥) → after ≡ mem
  pub row3 : t.code ≡ INODE → max_ino < r.largest → after ≡ mem
  pub row7 : t.code ≡ INODE → r.largest ≤ max_ino → after ≡ walk_mem r.path mem

-- of every request on any bytes, an unmount too: refused, it leaves every byte (R15, R96)
pub record EveryRefusedCall : Type 0 where
  pub mounts : (r : Request) (mem : List ℕ) → MountLeaves r mem (answered_by mem (λ i. mount_rule i r)) (mount_mem r mem)
  pub restores : (k : ℕ) (r : Request) (mem : List ℕ) → RestoredMountLeaves r mem (answered_by mem (λ i. restore_mount_rule i k r)) (restore_mount_mem k r mem)
  pub unmounts : (path mem : List ℕ) → ((answered_by mem (λ i. unmount_rule i path)).code ≡ 0 → ⊥) → unmount_mem path mem ≡ mem
