-- What the answers of the inner functions stand for, and places of rows.
use Rattle.std.specs.Prelude.{ℕ, suc, ◌+◌, ◌*◌, ◌^◌, ◌≤◌, Bool, cond, List, [], ◌∷◌, ◌≡◌, length, eqb, Option, None, Some}
use Rattle.le.specs.Mem.{get, put}
use Rattle.rules.specs.Numbers.{root_number}
use Rattle.rules.specs.Tree.{Mount, Node, parent_in}
use Rattle.rules.specs.Instance.{mount_of_node}
use Rattle.tables.specs.Layout.{mount_cell_at, uid_at, gid_at, mode_at}
use Rattle.tables.specs.View.{mount_from_cells, slot_at, nodes_of, view}
use Rattle.tables.specs.Write.{set_root_mount, set_row_mount, remove_row}
use Rattle.tables.specs.declared.mounts.MountPoint.{MountPoint}
use Rattle.tables.specs.declared.mounts.MountCells.{MountCells}
use Rattle.tables.specs.declared.mounts.NodeMount.{NodeMount}

-- a mount of the rules (R3, R76)
abbrev pub mount_of_point : MountPoint → Mount
mount_of_point m = record { index = m.fs_idx; root = m.root; uid = m.uid; gid = m.gid; mode = m.mode }

-- the same, where there is one
abbrev pub mount_in : Option MountPoint → Option Mount
mount_in None = None
mount_in (Some m) = Some (mount_of_point m)

-- ---- the cells of a mount

-- those of row i, in a table of n rows (R76)
abbrev pub row_cells : ℕ → ℕ → MountCells
row_cells n i = record { word = mount_cell_at n i; uid = uid_at n i; gid = gid_at n i; mode = mode_at n i }

-- the mount that the cells spell (R5)
abbrev pub mount_by_cells : List ℕ → MountCells → Option Mount
mount_by_cells mem at = mount_from_cells (get 8 mem at.word) (get 4 mem at.uid) (get 4 mem at.gid) (get 4 mem at.mode)

-- the cells spell a mount then (R5)
abbrev pub put_mount : MountCells → Mount → List ℕ → List ℕ
put_mount at m mem = put 4 (put 4 (put 4 (put 8 mem at.word (m.index * 2 ^ 56 + m.root)) at.uid m.uid) at.gid m.gid) at.mode m.mode

-- they stand within the bytes
abbrev pub CellsWithin : List ℕ → MountCells → Type 0
CellsWithin mem at = (at.word + 8 ≤ length mem) × (at.uid + 4 ≤ length mem) × (at.gid + 4 ≤ length mem) × (at.mode + 4 ≤ length mem)

-- whether slot k is held (R56)
abbrev pub is_held : List ℕ → ℕ → Bool
is_held mem k = (slot_at mem k).held

-- ---- places

-- one place on
abbrev pub later : Option ℕ → Option ℕ
later None = None
later (Some i) = Some (suc i)

-- the place of the first node of that number (R53)
unfoldable pub place_in : List Node → ℕ → Option ℕ
place_in [] x = None
place_in (n ∷ ns) x = cond (eqb n.number x) (Some 0) (later (place_in ns x))

-- the place of node x; the root has none (R52)
unfoldable pub row_for : List Node → ℕ → Option ℕ
row_for nodes x = cond (eqb x root_number) None (place_in nodes x)

-- the row is that of node x
abbrev pub RowOf : List ℕ → ℕ → Option ℕ → Type 0
RowOf mem x r = r ≡ row_for (nodes_of mem) x

-- what one search for node x tells: the mount, the parent, the row (R52, R54)
pub record WithParent (mem : List ℕ) (x : ℕ) (r : NodeMount) : Type 0 where
  pub mount : mount_in r.mount ≡ mount_of_node (view mem).tree x
  pub parent : r.parent ≡ parent_in (nodes_of mem) x
  pub row : RowOf mem x r.row

-- ---- writes at a node's number

-- what f makes at the place; where there is none, the bytes as they were
abbrev pub at_place : Option ℕ → (ℕ → List ℕ) → List ℕ → List ℕ
at_place None f mem = mem
at_place (Some i) f mem = f i

-- the mount of the root, or of the first node of that number; a number that is no node keeps none (R52, R53, R54)
unfoldable pub node_mount_mem : List Node → Option Mount → ℕ → List ℕ → List ℕ
node_mount_mem nodes m x mem = cond (eqb x root_number) (set_root_mount m mem) (at_place (place_in nodes x) (λ (i : ℕ). set_row_mount m i mem) mem)

-- the first node of that number goes (R53, R100)
unfoldable pub remove_mem : List Node → ℕ → List ℕ → List ℕ
remove_mem nodes x mem = at_place (place_in nodes x) (λ (i : ℕ). remove_row i mem) mem
