-- The instance's numbers, and the room that it has. Assumes nothing.
use mathlib.Core.Path.{◌≡◌, refl, ap, ◌∙◌}
use mathlib.Core.Bool.{false, not, ◌||◌, or-true}
use mathlib.Core.Logic.{⊎_elim}
use mathlib.Core.List.{List}
use Rattle.std.specs.Prelude.{Ok, Err}
use Rattle.rules.specs.declared.codes.VfsError.TheVariants.{NoRoom}
use Prim.Native.Nat.{ℕ, ◌+◌, ◌-◌, ◌^◌, ◌≤◌, ◌<◌, min}
use native.Mathlib.Omega.{arith}
use lib.ListN.{length}
use lib.Dec.{ltb, leb}
use borrow.Author.Tests.{lt-ltb, le-ltb, ltb-false, le-leb, lt-leb}
use Rattle.le.specs.Mem.{get}
use Rattle.rules.specs.Path.{components}
use Rattle.rules.specs.Tree.{makes, at_root}
use Rattle.rules.specs.Mount.{planned, needed, no_room}
use Rattle.rules.proofs.Tests.{le_or_lt, or_neither}
use Rattle.tables.specs.Table.{row}
use Rattle.tables.specs.Layout.{capacity_of, count_of, next_of}
use Rattle.tables.specs.View.{nodes_of, view}
use Rattle.tables.specs.Laid.{Bounds}
use Rattle.tables.proofs.RowOf.{view_nodes, nodes_count}
use Rattle.plan.specs.Plan.{room_of, fitting}

-- ---- the instance's numbers

module _ (mem : List ℕ) where
  pub view_next : (view mem).tree.next ≡ next_of mem
  unfolding view row get
  view_next = refl

  pub view_capacity : (view mem).fixed.capacity ≡ capacity_of mem
  unfolding view row get
  view_capacity = refl

  pub view_count : length (view mem).tree.nodes ≡ count_of mem
  view_count = ap length (view_nodes mem) ∙ nodes_count mem

  -- what the rules plan, over the rows
  pub planned_is : (path : List ℕ) → planned (view mem).tree path ≡ makes (nodes_of mem) (next_of mem) at_root (components 0 path)
  unfolding planned view row get
  planned_is path = refl

-- ---- the room

exact : (cap live next top n : ℕ) → live ≤ cap → next ≤ top → (ltb cap (live + n) || ltb top (next + n)) ≡ not (leb n (min (cap - live) (top - next)))
exact cap live next top n h k =
    ⊎_elim (λ (l : n ≤ min (cap - live) (top - next)). rw (le-leb n (min (cap - live) (top - next)) l, le-ltb cap (live + n) (omega arith), le-ltb top (next + n) (omega arith)))
    (λ (l : min (cap - live) (top - next) < n).
    rw (lt-leb n (min (cap - live) (top - next)) l)
    (⊎_elim (λ (m : cap - live ≤ top - next). rw (lt-ltb cap (live + n) (omega arith))) (λ (m : top - next < cap - live). rw (lt-ltb top (next + n) (omega arith), or-true)) (le_or_lt (cap - live) (top - next))))
    (le_or_lt n (min (cap - live) (top - next)))

module _ (mem path : List ℕ) (d : Bounds mem) where
  -- NOROOM exactly if the needed nodes are more than the room (R67)
  pub no_room_lem : no_room (view mem) path ≡ not (leb (needed (view mem).tree path) (room_of mem))
  unfolding no_room
  no_room_lem =
      rw (view_capacity mem, view_next mem, view_count mem)
      (exact (capacity_of mem) (1 + count_of mem) (next_of mem) (2 ^ 56) (needed (view mem).tree path) (omega (arith, d.live)) d.top)

  pub fits : needed (view mem).tree path ≤ room_of mem → Ok (planned (view mem).tree path) ≡ fitting (view mem) path
  unfolding fitting
  fits h = rw (no_room_lem, le-leb (needed (view mem).tree path) (room_of mem) h)

  pub lacks : room_of mem < needed (view mem).tree path → Err NoRoom ≡ fitting (view mem) path
  unfolding fitting
  lacks h = rw (no_room_lem, lt-leb (needed (view mem).tree path) (room_of mem) h)

-- where there is room, by N and by the numbers
pub room_left : (mem path : List ℕ) → no_room (view mem) path ≡ false
    → (count_of mem + length (planned (view mem).tree path).nodes < capacity_of mem) × (next_of mem + length (planned (view mem).tree path).nodes ≤ 2 ^ 56)
unfolding no_room needed
room_left mem path e =
    let n = length (planned (view mem).tree path).nodes in
    let o = or_neither (ltb (view mem).fixed.capacity (1 + length (view mem).tree.nodes + n)) (ltb (2 ^ 56) ((view mem).tree.next + n)) e in
    let a = ltb-false (view mem).fixed.capacity (1 + length (view mem).tree.nodes + n) o.0 in
    let b = ltb-false (2 ^ 56) ((view mem).tree.next + n) o.1 in
    (omega (arith, view_capacity mem, view_count mem), omega (arith, view_next mem))
