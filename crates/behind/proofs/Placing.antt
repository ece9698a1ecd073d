-- A mount placed and taken off, and nodes made, in bytes with a rest behind them. Assumes nothing.
use mathlib.Core.Path.{◌≡◌, refl, ap, ◌∙◌}
use mathlib.Core.Bool.{Bool, true, false, cond, not, ◌&&◌}
use mathlib.Core.List.{List, [], ◌∷◌, ◌++◌}
use Rattle.std.specs.Prelude.{Option, None, Some}
use Prim.Native.Nat.{ℕ, ◌+◌, ◌^◌, ◌≤◌, ◌<◌}
use native.Mathlib.Omega.{arith}
use lib.ListN.{length}
use lib.Dec.{eqb}
use Rattle.rules.specs.Numbers.{root_number}
use Rattle.rules.specs.Tree.{Mount, Node}
use Rattle.rules.specs.Instance.{Instance, mount_of_node}
use Rattle.tables.specs.Layout.{capacity_of, count_of, next_of, removal_field}
use Rattle.tables.specs.View.{flag, head_of, nodes_of, view}
use Rattle.tables.specs.Laid.{laid, Bounds}
use Rattle.tables.specs.Write.{set_slot, mount_cells, set_root_mount, set_row_mount, remove_row, append_node}
use Rattle.tables.specs.Answer.{place_in, at_place, node_mount_mem, remove_mem}
use Rattle.tables.proofs.Spells.{root_fit}
use Rattle.tables.proofs.RowOf.{row_below}
use Rattle.tables.proofs.Keeps.{laid_is, laid_long, keeps_mount, keeps_append}
use Rattle.placing.specs.Place.{freed_mem, place_mem, out_mem, take_off_mem, InSlots}
use Rattle.placing.proofs.Stands.{keeps_freed, keeps_out}
use Rattle.plan.specs.Apply.{append_all}
use Rattle.plan.proofs.Fresh.{Fresh}
use Rattle.plan.proofs.Grows.{append_capacity, append_count, append_next}
use Rattle.behind.specs.Behind.{LeavesRest}
use Rattle.behind.proofs.Front.{header_front, slot_front, view_front, row_mount_front, append_front, remove_front}

module _ (rest : List ℕ) where
  module _ (mem : List ℕ) (e : laid mem ≡ true) where
    abbrev d : Bounds mem
    d = laid_is mem e

    nodes_front : nodes_of (mem ++ rest) ≡ nodes_of mem
    unfolding view
    nodes_front = ap (λ (i : Instance). i.tree.nodes) (view_front rest mem d)

    mount_front : (m : Option Mount) (x : ℕ) → LeavesRest (λ (s : List ℕ). node_mount_mem (nodes_of s) m x s) mem rest
    unfolding node_mount_mem set_root_mount
    mount_front m x = ap (λ (ns : List Node). node_mount_mem ns m x (mem ++ rest)) nodes_front ∙ go (eqb x root_number) (place_in (nodes_of mem) x) refl
      where
        go : (b : Bool) (o : Option ℕ) → place_in (nodes_of mem) x ≡ o
            → cond b (set_root_mount m (mem ++ rest)) (at_place o (λ (i : ℕ). set_row_mount m i (mem ++ rest)) (mem ++ rest)) ≡ cond b (set_root_mount m mem) (at_place o (λ (i : ℕ). set_row_mount m i mem) mem) ++ rest
        go true o q = header_front rest mem (laid_long mem e) 17 (mount_cells m) (root_fit m)
        go false None q = refl
        go false (Some i) q = row_mount_front rest mem d m i (row_below mem x i q)

    gone_front : (x : ℕ) → LeavesRest (λ (s : List ℕ). remove_mem (nodes_of s) x s) mem rest
    unfolding remove_mem
    gone_front x = ap (λ (ns : List Node). remove_mem ns x (mem ++ rest)) nodes_front ∙ go (place_in (nodes_of mem) x) refl
      where
        go : (o : Option ℕ) → place_in (nodes_of mem) x ≡ o → at_place o (λ (i : ℕ). remove_row i (mem ++ rest)) (mem ++ rest) ≡ at_place o (λ (i : ℕ). remove_row i mem) mem ++ rest
        go None q = refl
        go (Some i) q = remove_front rest mem d i (row_below mem x i q)

    freed_front : (m : Option Mount) → InSlots m → LeavesRest (freed_mem m) mem rest
    unfolding freed_mem
    freed_front None h = refl
    freed_front (Some m) h = slot_front rest mem (laid_long mem e) m.index false 0 h

    out_front : (x : ℕ) → LeavesRest (out_mem x) mem rest
    unfolding out_mem view
    out_front x =
        ap (λ (i : Instance). cond (i.removal && not (eqb x root_number)) (remove_mem (nodes_of (mem ++ rest)) x (mem ++ rest)) (mem ++ rest)) (view_front rest mem d)
        ∙ go (flag removal_field (head_of mem) && not (eqb x root_number))
      where
        go : (b : Bool) → cond b (remove_mem (nodes_of (mem ++ rest)) x (mem ++ rest)) (mem ++ rest) ≡ cond b (remove_mem (nodes_of mem) x mem) mem ++ rest
        go true = gone_front x
        go false = refl

  module _ (mem : List ℕ) (e : laid mem ≡ true) where
    pub place_front : (m : Mount) (tag x : ℕ) → m.index < 256 → InSlots (mount_of_node (view mem).tree x) → LeavesRest (place_mem m tag x) mem rest
    unfolding place_mem
    place_front m tag x k h =
        let old : Option Mount = mount_of_node (view mem).tree x in
        let m₁ = freed_mem old mem in
        let k₁ : laid m₁ ≡ true = keeps_freed mem e old in
        let m₂ = node_mount_mem (nodes_of m₁) (Some m) x m₁ in
        let put : List ℕ → List ℕ = λ (f : List ℕ). set_slot m.index true tag (node_mount_mem (nodes_of f) (Some m) x f) in
        ap (λ (i : Instance). put (freed_mem (mount_of_node i.tree x) (mem ++ rest))) (view_front rest mem (laid_is mem e))
        ∙ ap put (freed_front mem e old h)
        ∙ ap (set_slot m.index true tag) (mount_front m₁ k₁ (Some m) x)
        ∙ slot_front rest m₂ (laid_long m₂ (keeps_mount m₁ k₁ (Some m) x)) m.index true tag k

    pub take_off_front : (m : Mount) (x : ℕ) → m.index < 256 → LeavesRest (take_off_mem m x) mem rest
    unfolding take_off_mem
    take_off_front m x k =
        let m₁ = node_mount_mem (nodes_of mem) None x mem in
        let k₁ : laid m₁ ≡ true = keeps_mount mem e None x in
        let m₂ = out_mem x m₁ in
        ap (λ (s : List ℕ). set_slot m.index false 0 (out_mem x s)) (mount_front mem e None x)
        ∙ ap (set_slot m.index false 0) (out_front m₁ k₁ x)
        ∙ slot_front rest m₂ (laid_long m₂ (keeps_out x m₁ k₁)) m.index false 0 k

  -- ---- nodes made

  pub grown_front : (ns : List Node) (mem : List ℕ) → laid mem ≡ true → Fresh (next_of mem) ns → count_of mem + length ns < capacity_of mem → next_of mem + length ns ≤ 2 ^ 56 → LeavesRest (append_all ns) mem rest
  unfolding append_all Fresh
  grown_front [] mem e f c x = refl
  grown_front (n ∷ ns) mem e f c x =
      let d = laid_is mem e in
      let m' = append_node n.parent n.name mem in
      let next = append_next mem d n.parent n.name in
      let more = append_count mem d n.parent n.name in
      let size = append_capacity mem d n.parent n.name in
      ap (append_all ns) (append_front rest mem d n.parent n.name f.2)
      ∙ grown_front ns m' (keeps_append mem e n.parent n.name (omega arith) (omega arith)) (rw next f.3) (omega arith) (omega arith)
