-- What cells spell: a number, yes or no, a mount, a name, a new node. Assumes nothing.
use mathlib.Core.Path.{◌≡◌, refl, ◌∙◌}
use mathlib.Core.Bool.{Bool, true, false, not, cond}
use mathlib.Core.List.{List, ◌++◌, append-nil}
use Rattle.std.specs.Prelude.{Option, None, Some}
use Prim.Native.Nat.{ℕ, ◌+◌, ◌-◌, ◌*◌, ◌/◌, ◌%◌, ◌^◌, ◌≤◌, ◌<◌, min}
use native.Mathlib.Nat.{mod-eq_of_lt, add-zero}
use native.Mathlib.Omega.{arith}
use lib.ListN.{length, take, drop, length-append, length-take, length-drop, take-append-drop}
use lib.Seq.{take_at, length-take-le}
use lib.Dec.{eqb}
use borrow.Author.Tests.{ne_eqb}
use Rattle.le.specs.Mem.{read, value, bytes_of}
use Rattle.rules.proofs.Fields.{length_bytes_of, value_bytes}
use Rattle.rules.specs.Tree.{Mount, bare, with_mount}
use Rattle.tables.specs.Table.{row}
use Rattle.tables.specs.Layout.{header, node_table, number_at, parent_at, mount_cell_at, last_at, uid_at, gid_at, mode_at, first_at}
use Rattle.tables.specs.View.{mount_from_cells, name_from, node_from, node_at}
use Rattle.tables.specs.Write.{from_place, yes_byte, mount_cells, row_mount_cells, MountFits, MayFit, node_cells}
use Rattle.tables.proofs.Table.{over, Fit}

-- a number that fills the cell at a place
pub cell_back : (k v : ℕ) (mem : List ℕ) (at : ℕ) → v < 256 ^ k → value (bytes_of k v ++ read mem (at + length (bytes_of k v)) (k - length (bytes_of k v))) ≡ v
unfolding read
cell_back k v mem at h =
    let z : k - k ≡ 0 = omega arith in
    rw (length_bytes_of k v, z, append-nil, value_bytes k v) (mod-eq_of_lt h)

-- the byte of yes or no is read again, and fits
pub yes_back : (b : Bool) → not (eqb (yes_byte b) 0) ≡ b
yes_back true = refl
yes_back false = refl

pub yes_fits : (b : Bool) → yes_byte b < 256
yes_fits true = omega arith
yes_fits false = omega arith

-- a cell spells no mount, or the one of its two numbers
pub from_word : (P : Option Mount → Type 0) (word uid gid mode : ℕ) → P None → P (Some (record { index = word / 2 ^ 56; root = word % 2 ^ 56; uid = uid; gid = gid; mode = mode })) → P (mount_from_cells word uid gid mode)
unfolding mount_from_cells
from_word P word uid gid mode a m = go (eqb (word / 2 ^ 56) 0)
  where
    go : (b : Bool) → P (cond b None (Some (record { index = word / 2 ^ 56; root = word % 2 ^ 56; uid = uid; gid = gid; mode = mode })))
    go true = a
    go false = m

pub mount_word : (m : Mount) → MountFits m → mount_from_cells (m.index * 2 ^ 56 + m.root) m.uid m.gid m.mode ≡ Some m
unfolding mount_from_cells
mount_word m f =
    let i : (m.index * 2 ^ 56 + m.root) / 2 ^ 56 ≡ m.index = omega (arith, f.root) in
    let r : (m.index * 2 ^ 56 + m.root) % 2 ^ 56 ≡ m.root = omega (arith, f.root) in
    rw (i, r, ne_eqb m.index 0 (λ z. omega (arith, f.index)))

pub mount_written : (m : Option Mount) (n : ℕ) (mem : List ℕ) (i : ℕ) → MayFit m → node_from (over (node_table n) (row_mount_cells m) mem i) ≡ with_mount m (node_at n mem i)
unfolding node_from node_at mount_from_cells over row
mount_written None n mem i f =
    let w = cell_back 8 0 mem (mount_cell_at n i) (omega arith) in
    rw w (simp add-zero)
mount_written (Some m) n mem i f =
    let v = m.index * 2 ^ 56 + m.root in
    let w = cell_back 8 v mem (mount_cell_at n i) (omega (arith, f.few, f.root)) in
    let a = cell_back 4 m.uid mem (uid_at n i) f.uid in
    let b = cell_back 4 m.gid mem (gid_at n i) f.gid in
    let c = cell_back 4 m.mode mem (mode_at n i) f.mode in
    rw (w, a, b, c, mount_word m f) (simp add-zero)

-- a name in its two cells
pub name_back : (p s t : List ℕ) → length p ≤ 255 → name_from ((bytes_of 1 (length p) ++ drop (length p - 7) p) ++ s) (take (length p - 7) p ++ t) ≡ p
unfolding name_from bytes_of
name_back p s t h =
    let L = length p in
    let e : L % 256 ≡ L = mod-eq_of_lt (omega arith) in
    let f : length (take (L - 7) p) ≡ L - 7 = length-take-le (L - 7) p (omega arith) in
    let g : length (drop (L - 7) p) ≡ min L 7 = length-drop (L - 7) p ∙ omega arith in
    let first : take (L - 7) (take (L - 7) p ++ t) ≡ take (L - 7) p = take_at (take (L - 7) p) t (L - 7) f in
    let last : take (min L 7) (drop (L - 7) p ++ s) ≡ drop (L - 7) p = take_at (drop (L - 7) p) s (min L 7) g in
    rw e ((λ i. first i ++ last i) ∙ take-append-drop (L - 7) p)

-- the cells of a new node fit, and spell it
pub cells_fit : (n x parent : ℕ) (p : List ℕ) → length p ≤ 255 → Fit (node_table n) (node_cells x parent p)
unfolding node_cells
cells_fit n x parent p h =
    let e : length (bytes_of 1 (length p) ++ drop (length p - 7) p) ≤ 8 = simp (length-append, length_bytes_of, length-drop) (omega arith) in
    let f : length (take (length p - 7) p) ≤ 248 = simp length-take (omega arith) in
    (omega (arith, length_bytes_of 8 x), (omega (arith, length_bytes_of 8 parent), (omega (arith, length_bytes_of 8 0), (e, (omega arith, (omega arith, (omega arith, (f, omega arith))))))))

pub node_written : (n x parent : ℕ) (p : List ℕ) (mem : List ℕ) (i : ℕ) → x < 2 ^ 56 → parent < 2 ^ 56 → length p ≤ 255
    → node_from (over (node_table n) (node_cells x parent p) mem i) ≡ bare x parent p
unfolding node_from mount_from_cells over node_cells
node_written n x parent p mem i a b h =
    let u = cell_back 8 x mem (number_at n i) (omega arith) in
    let v = cell_back 8 parent mem (parent_at n i) (omega arith) in
    let w = cell_back 8 0 mem (mount_cell_at n i) (omega arith) in
    let last = bytes_of 1 (length p) ++ drop (length p - 7) p in
    let first = take (length p - 7) p in
    let name : name_from (last ++ read mem (last_at n i + length last) (8 - length last)) (first ++ read mem (first_at n i + length first) (248 - length first)) ≡ p =
    name_back p (read mem (last_at n i + length last) (8 - length last)) (read mem (first_at n i + length first) (248 - length first)) h in
    let c : x % 2 ^ 56 ≡ x = mod-eq_of_lt a in
    let d : parent % 2 ^ 56 ≡ parent = mod-eq_of_lt b in
    rw (u, v, w, c, d) (λ t. record { number = x; parent = parent; name = name t; mount = None })

-- what a mount writes fits
pub mount_fit : (m : Option Mount) (n : ℕ) → Fit (node_table n) (row_mount_cells m)
mount_fit None n = omega (arith, length_bytes_of 8 0)
mount_fit (Some m) n =
    omega (arith, length_bytes_of 8 (m.index * 2 ^ 56 + m.root), length_bytes_of 4 m.uid, length_bytes_of 4 m.gid, length_bytes_of 4 m.mode)

pub root_fit : (m : Option Mount) → Fit header (from_place 17 (mount_cells m))
root_fit None = omega (arith, length_bytes_of 8 0)
root_fit (Some m) = omega (arith, length_bytes_of 8 (m.index * 2 ^ 56 + m.root), length_bytes_of 4 m.uid, length_bytes_of 4 m.gid, length_bytes_of 4 m.mode)
