-- What the code writes is what the memory functions say: a row a cell at a time, the moves of closing up a column at a time.
-- Assumes nothing.
use mathlib.Core.Path.{◌≡◌, refl, sym, ap, ◌∙◌}
use mathlib.Core.Bool.{Bool}
use mathlib.Core.List.{List, ◌∷◌, ◌++◌}
use Rattle.std.specs.Prelude.{Some}
use Prim.Native.Nat.{ℕ, ◌+◌, ◌-◌, ◌*◌, ◌^◌, ◌≤◌, ◌<◌}
use native.Mathlib.Nat.{mul-add, one-mul}
use native.Mathlib.Numerals.{add-one}
use native.Mathlib.Omega.{arith}
use lib.ListN.{length, get_or, take, drop, length-drop}
use Rattle.std.specs.Prelude.{map}
use lib.Seq.{take_all, drop-cons}
use Rattle.std.proofs.lemmas.List.{drop_all}
use Rattle.le.specs.Mem.{read, write, bytes_of, put}
use Rattle.rules.specs.Tree.{Mount}
use Rattle.rules.proofs.Fields.{read_slice}
use Rattle.le.proofs.Lens.{put_write, length-write}
use Rattle.tables.specs.Table.{Col, col, off, put_row, close_up}
use Rattle.tables.specs.Layout.{table_at, count_at, next_at, counter_at, removal_at, root_cell_at, root_uid_at, root_gid_at, root_mode_at, occupancy_at, tags_at, node_table, capacity_of, count_of, next_of, number_at, parent_at, mount_cell_at, last_at, uid_at, gid_at, mode_at, first_at}
use Rattle.tables.specs.declared.places.Column.{Column}
use Rattle.tables.specs.declared.places.TheConstants.{COLUMNS}
use Rattle.tables.specs.Write.{put_header, set_count, set_next, set_counter, set_removal, yes_byte, set_held, set_tag, set_root_mount, set_row_mount, name_cells, node_cells, append_node, remove_row}

-- ---- the header

module _ (mem : List ℕ) where
  put_count : (v : ℕ) → put 8 mem count_at v ≡ set_count v mem
  unfolding put set_count put_header put_row
  put_count v = refl

  pub put_next : (v : ℕ) → put 8 mem next_at v ≡ set_next v mem
  unfolding put set_next put_header put_row
  put_next v = refl

  pub put_counter : (v : ℕ) → put 1 mem counter_at v ≡ set_counter v mem
  unfolding put set_counter put_header put_row
  put_counter v = refl

  pub put_removal : put 1 mem removal_at 1 ≡ set_removal mem
  unfolding put set_removal put_header put_row
  put_removal = refl

  pub put_root_mount : (m : Mount) → put 4 (put 4 (put 4 (put 8 mem root_cell_at (m.index * 2 ^ 56 + m.root)) root_uid_at m.uid) root_gid_at m.gid) root_mode_at m.mode ≡ set_root_mount (Some m) mem
  unfolding put set_root_mount put_header put_row
  put_root_mount m = refl

-- ---- a slot

pub put_held : (mem : List ℕ) (k : ℕ) (held : Bool) → put 1 mem (occupancy_at + k) (yes_byte held) ≡ set_held k held mem
unfolding put set_held put_row
put_held mem k held = rw one-mul

pub put_tag : (mem : List ℕ) (k tag : ℕ) → put 4 mem (tags_at + 4 * k) tag ≡ set_tag k tag mem
unfolding put set_tag put_row
put_tag mem k tag = refl

-- ---- rows

module _ (mem : List ℕ) where
  pub put_row_mount : (i : ℕ) (m : Mount) →
      put 4 (put 4 (put 4 (put 8 mem (mount_cell_at (capacity_of mem) i) (m.index * 2 ^ 56 + m.root)) (uid_at (capacity_of mem) i) m.uid) (gid_at (capacity_of mem) i) m.gid) (mode_at (capacity_of mem) i) m.mode
      ≡ set_row_mount (Some m) i mem
  unfolding put set_row_mount put_row
  put_row_mount i m = refl

  pub appended : (parent : ℕ) (p : List ℕ) → put 8 (put 8 (put_row (node_table (capacity_of mem)) (node_cells (next_of mem) parent p) mem (count_of mem)) count_at (count_of mem + 1)) next_at (next_of mem + 1) ≡ append_node parent p mem
  unfolding append_node
  appended parent p = put_next _ _ ∙ ap (set_next (next_of mem + 1)) (put_count _ _)

  pub removed : (i : ℕ) → put 8 (close_up (node_table (capacity_of mem)) mem i (count_of mem - 1 - i)) count_at (count_of mem - 1) ≡ remove_row i mem
  unfolding remove_row
  removed i = put_count _ _

-- ---- closing up, a column at a time

-- the columns as the code has them
abbrev pub col_of : ℕ → Column → Col
col_of n c = col (table_at + c.before * n) c.width

pub columns_are : (n : ℕ) → map (col_of n) COLUMNS ≡ node_table n
columns_are n = let e : table_at + 0 * n ≡ table_at = omega arith in ap (λ (x : ℕ). col x 8 ∷ drop 1 (node_table n)) e

-- j columns are closed up in s: closing up the others gives what closing up all in s₀ gives
pub record Closing (n k m : ℕ) (cs : List Column) (s₀ s : List ℕ) (j : ℕ) : Type 0 where
  pub size : length s ≡ length s₀
  pub rest : close_up (map (col_of n) (drop j cs)) s k m ≡ close_up (map (col_of n) cs) s₀ k m

module _ (n k m : ℕ) (cs : List Column) (s₀ : List ℕ) where
  module _ (s : List ℕ) (j : ℕ) (g : Closing n k m cs s₀ s j) where
    pub closing_on : (d : Column) → j < length cs → (at : ℕ) → at ≡ table_at + (get_or cs j d).before * n + (get_or cs j d).width * k
        → (out : List ℕ) → out ≡ write s at (read s (at + (get_or cs j d).width) ((get_or cs j d).width * m)) → Closing n k m cs s₀ out (j + 1)
    unfolding close_up
    closing_on d l at a out o =
        let c = get_or cs j d in
        let f : at + c.width ≡ off (col_of n c) (k + 1) = omega (arith, mul-add c.width k 1) in
        let w : out ≡ write s (off (col_of n c) k) (read s (off (col_of n c) (k + 1)) (c.width * m)) = o ∙ (λ t. write s (a t) (read s (f t) (c.width * m))) in
        record {
          size = ap length o ∙ length-write s at (read s (at + c.width) (c.width * m)) ∙ g.size;
          rest = rw (add-one, w) (sym (ap (λ (xs : List Column). close_up (map (col_of n) xs) s k m) (drop-cons cs j d l)) ∙ g.rest);
        }

    pub closing_ends : length cs ≤ j → s ≡ close_up (map (col_of n) cs) s₀ k m
    unfolding close_up
    closing_ends h = sym (ap (λ (xs : List Column). close_up (map (col_of n) xs) s k m) (drop_all j cs h)) ∙ g.rest

-- ---- a name: its length and its last bytes, and the bytes before them

module _ (p : List ℕ) where
  last_bytes : read p (length p - 7) (length p - (length p - 7)) ≡ drop (length p - 7) p
  last_bytes = read_slice p (length p - 7) (length p - (length p - 7)) (omega arith)
      ∙ take_all (length p - (length p - 7)) (drop (length p - 7) p) (omega (arith, length-drop (length p - 7) p))

  first_bytes : read p 0 (length p - 7) ≡ take (length p - 7) p
  first_bytes = read_slice p 0 (length p - 7) (omega arith)

-- the code writes the cells of a name, and those of a new node
pub name_put : (mem : List ℕ) (n i : ℕ) (p : List ℕ) →
    write (write (put 1 mem (last_at n i) (length p)) (last_at n i + 1) (read p (length p - 7) (length p - (length p - 7)))) (first_at n i) (read p 0 (length p - 7))
    ≡ put_row (drop 3 (node_table n)) (name_cells p) mem i
unfolding put put_row
name_put mem n i p =
    let e : write (put 1 mem (last_at n i) (length p)) (last_at n i + 1) (read p (length p - 7) (length p - (length p - 7))) ≡ write mem (last_at n i) (bytes_of 1 (length p) ++ drop (length p - 7) p) =
    ap (write (put 1 mem (last_at n i) (length p)) (last_at n i + 1)) (last_bytes p) ∙ put_write 1 mem (last_at n i) (length p) (drop (length p - 7) p) in
    λ t. write (e t) (first_at n i) (first_bytes p t)

pub node_put : (mem : List ℕ) (n i x parent : ℕ) (p : List ℕ) →
    put_row (drop 3 (node_table n)) (name_cells p) (put 8 (put 8 (put 8 mem (number_at n i) x) (parent_at n i) parent) (mount_cell_at n i) 0) i
    ≡ put_row (node_table n) (node_cells x parent p) mem i
unfolding put node_cells put_row
node_put mem n i x parent p = refl
