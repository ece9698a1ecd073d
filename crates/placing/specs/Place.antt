-- A mount placed on a node and taken off it, as functions of the memory, and what is told of them.
use Rattle.std.specs.Prelude.{ℕ, ◌<◌, true, false, cond, not, ◌&&◌, List, ◌≡◌, eqb, Option, None, Some}
use Rattle.rules.specs.Numbers.{root_number}
use Rattle.rules.specs.Tree.{Mount}
use Rattle.rules.specs.Instance.{mount_of_node, tag_of}
use Rattle.rules.specs.Mount.{tag_at, freed}
use Rattle.tables.specs.Layout.{removal_field}
use Rattle.tables.specs.View.{flag, head_of, nodes_of, view}
use Rattle.tables.specs.Write.{set_slot}
use Rattle.tables.specs.Answer.{mount_in, node_mount_mem, remove_mem}
use Rattle.placing.specs.declared.Tags.{Tags}
use Rattle.tables.specs.declared.mounts.MountPoint.{MountPoint}

-- the index of a mount that was there is freed (R76)
unfoldable pub freed_mem : Option Mount → List ℕ → List ℕ
freed_mem None mem = mem
freed_mem (Some m) mem = set_slot m.index false 0 mem

-- then the node has the mount, and the slot of its index the tag (R76)
unfoldable pub place_mem : Mount → ℕ → ℕ → List ℕ → List ℕ
place_mem m tag x mem =
    let f = freed_mem (mount_of_node (view mem).tree x) mem in
    set_slot m.index true tag (node_mount_mem (nodes_of f) (Some m) x f)

-- with removal set, the node is taken out of the table unless it is the root (R100)
unfoldable pub out_mem : ℕ → List ℕ → List ℕ
out_mem x mem = cond (flag removal_field (head_of mem) && not (eqb x root_number)) (remove_mem (nodes_of mem) x mem) mem

-- the mount is taken off its node, and its index freed (R98)
unfoldable pub take_off_mem : Mount → ℕ → List ℕ → List ℕ
take_off_mem m x mem = set_slot m.index false 0 (out_mem x (node_mount_mem (nodes_of mem) None x mem))

-- a mount's index is one of the 256
abbrev pub InSlots : Option Mount → Type 0
InSlots None = Unit {0}
InSlots (Some m) = m.index < 256

-- ---- what is told

-- the tag of an old mount's index, and the bytes with that index freed (R76, R78)
pub record Frees (mem : List ℕ) (old : Option MountPoint) (r : Option ℕ) (after : List ℕ) : Type 0 where
  pub tag : r ≡ tag_at (mount_in old) (view mem)
  pub bytes : after ≡ freed_mem (mount_in old) mem
  pub within : InSlots (mount_in old)

-- the tag found on the node, the tag in the new slot once the old one is freed, and the bytes (R78, R93); the old mount's index was one of the 256
pub record Places (mem : List ℕ) (m : Mount) (t x : ℕ) (r : Tags) (after : List ℕ) : Type 0 where
  pub replaced : r.replaced ≡ tag_at (mount_of_node (view mem).tree x) (view mem)
  pub displaced : r.displaced ≡ tag_of (freed (mount_of_node (view mem).tree x) (view mem)) m.index
  pub bytes : after ≡ place_mem m t x mem
  pub within : InSlots (mount_of_node (view mem).tree x)

-- the tag released, and the bytes (R97)
pub record TakesOff (mem : List ℕ) (m : Mount) (x : ℕ) (r : Option ℕ) (after : List ℕ) : Type 0 where
  pub tag : r ≡ tag_of (view mem) m.index
  pub bytes : after ≡ take_off_mem m x mem
