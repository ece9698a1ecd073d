-- Each call that writes, on bytes with a rest behind them (R23). Assumes nothing.
use mathlib.Core.Path.{◌≡◌, refl, sym, ap, ◌∙◌, subst}
use mathlib.Core.Bool.{Bool, true, false, cond}
use mathlib.Core.List.{List, [], ◌∷◌, ◌++◌}
use Rattle.std.specs.Prelude.{Option, None, Some}
use Prim.Native.Nat.{ℕ, ◌<◌}
use native.Mathlib.Omega.{arith}
use lib.Dec.{ltb}
use Rattle.le.specs.Mem.{bytes_of}
use Rattle.rules.specs.Bytes.{Bytes}
use Rattle.rules.specs.Numbers.{max_ino}
use Rattle.rules.specs.Path.{rooted, too_long}
use Rattle.rules.specs.Tree.{Mount}
use Rattle.rules.specs.Instance.{Instance, mount_of_node}
use Rattle.rules.specs.Mount.{Request, planned, no_room, ended, requested_mount, allocation}
use Rattle.rules.specs.Reached.{bad_path, reached, reached_mount}
use Rattle.rules.proofs.Fields.{length_bytes_of}
use Rattle.rules.proofs.Tests.{or_neither}
use Rattle.rules.proofs.Allocation.{found_bounds}
use Rattle.tables.specs.Layout.{next_of}
use Rattle.tables.specs.View.{view}
use Rattle.tables.specs.Laid.{laid}
use Rattle.tables.specs.Write.{set_counter, set_removal}
use Rattle.tables.proofs.Keeps.{laid_is, laid_long}
use Rattle.placing.specs.Place.{InSlots, place_mem}
use Rattle.plan.specs.Apply.{append_all}
use Rattle.plan.proofs.Spare.{room_left}
use Rattle.plan.proofs.Fresh.{Fresh, planned_fresh}
use Rattle.plan.proofs.Walked.{view_walked, keeps_walked}
use Rattle.mount_parts.specs.Mounting.{alloc_mem, end_mem, walk_mem, planned_mem, found_mem, rooted_mem, early, mount_mem}
use Rattle.mount_parts.specs.RestoredMounting.{restore_mount_rest_mem, restore_mount_stopped, restore_mount_mem}
use Rattle.vfs.specs.Unmounting.{off_mem, unmount_mem}
use Rattle.mount_parts.proofs.MountWays.{counter_in, alloc_view, alloc_keeps}
use Rattle.behind.specs.Behind.{LeavesRest}
use Rattle.behind.proofs.Front.{header_front, view_front, laid_front}
use Rattle.behind.proofs.Few.{TreeIn, view_in, grown_in, mount_in_lem}
use Rattle.behind.proofs.Placing.{place_front, take_off_front, grown_front}

module _ (rest : List ℕ) where
  -- ---- the header

  pub removal_front : (mem : List ℕ) → laid mem ≡ true → LeavesRest set_removal mem rest
  unfolding set_removal
  removal_front mem e = header_front rest mem (laid_long mem e) 15 (bytes_of 1 1 ∷ []) (omega (arith, length_bytes_of 1 1))

  counter_front : (mem : List ℕ) → laid mem ≡ true → (c : ℕ) → LeavesRest (set_counter c) mem rest
  unfolding set_counter
  counter_front mem e c = header_front rest mem (laid_long mem e) 14 (bytes_of 1 c ∷ []) (omega (arith, length_bytes_of 1 c))

  -- ---- mount and restored mount

  module _ (mem : List ℕ) (e : laid mem ≡ true) where
    alloc_front : LeavesRest alloc_mem mem rest
    unfolding alloc_mem
    alloc_front = ap (λ (i : Instance). set_counter (allocation i).counter (mem ++ rest)) (view_front rest mem (laid_is mem e)) ∙ counter_front mem e (allocation (view mem)).counter

    -- rows 7 and 8
    end_front : (k : ℕ) (r : Request) (x : ℕ) → k < 256 → InSlots (mount_of_node (view mem).tree x) → LeavesRest (end_mem k r x) mem rest
    unfolding end_mem
    end_front k r x h old = go (ltb max_ino r.root)
      where
        go : (b : Bool) → cond b (mem ++ rest) (place_mem (requested_mount k r) r.tag x (mem ++ rest)) ≡ cond b mem (place_mem (requested_mount k r) r.tag x mem) ++ rest
        go true = refl
        go false = place_front rest mem e (requested_mount k r) r.tag x h old

  module _ (mem : List ℕ) (e : laid mem ≡ true) where
    -- the walk, then rows 7 and 8
    planned_front : (k : ℕ) (r : Request) → k < 256 → TreeIn (view mem).tree → too_long r.path ≡ false → no_room (view mem) r.path ≡ false → LeavesRest (planned_mem k r) mem rest
    unfolding planned_mem walk_mem
    planned_front k r h t s n =
        let p : List ℕ = r.path in
        let left = room_left mem p n in
        let ns = (planned (view mem).tree p).nodes in
        let f : Fresh (next_of mem) ns = planned_fresh mem p s left.1 in
        let m' = append_all ns mem in
        let k' : laid m' ≡ true = keeps_walked mem p e s n in
        let t' : TreeIn (view m').tree = subst (λ (i : Instance). TreeIn i.tree) (sym (view_walked mem p e s n)) (grown_in (next_of mem) ns (view mem).tree f t) in
        ap (λ (i : Instance). end_mem k r (ended i p) (append_all (planned i.tree p).nodes (mem ++ rest))) (view_front rest mem (laid_is mem e))
        ∙ ap (end_mem k r (ended (view mem) p)) (grown_front rest ns mem e f left.0 left.1)
        ∙ end_front m' k' k r (ended (view mem) p) h (mount_in_lem (view m').tree (ended (view mem) p) t')

  module _ (mem : List ℕ) (e : laid mem ≡ true) (b : Bytes mem) (r : Request) (s : too_long r.path ≡ false) where
    abbrev i : Instance
    i = view mem

    index_low : (k : ℕ) → (allocation i).found ≡ Some k → k < 256
    index_low k f = omega (arith, (found_bounds i (counter_in mem b) k f).1)

    same_room : no_room (view (alloc_mem mem)) r.path ≡ no_room i r.path
    unfolding no_room
    same_room = rw (alloc_view mem e)

    -- row 5, or the rest with the index found
    found_front : no_room i r.path ≡ false → (o : Option ℕ) → (allocation i).found ≡ o → LeavesRest (found_mem o r) mem rest
    unfolding found_mem
    found_front n None f = alloc_front mem e
    found_front n (Some k) f =
        ap (planned_mem k r) (alloc_front mem e)
        ∙ planned_front (alloc_mem mem) (alloc_keeps mem e) k r (index_low k f) (subst (λ (j : Instance). TreeIn j.tree) (sym (alloc_view mem e)) (view_in mem b)) s (same_room ∙ n)

    rooted_front : LeavesRest (rooted_mem r) mem rest
    unfolding rooted_mem
    rooted_front =
        ap (λ (j : Instance). cond (no_room j r.path) (mem ++ rest) (found_mem (allocation j).found r (mem ++ rest))) (view_front rest mem (laid_is mem e))
        ∙ go (no_room i r.path) refl
      where
        go : (t : Bool) → no_room i r.path ≡ t → cond t (mem ++ rest) (found_mem (allocation i).found r (mem ++ rest)) ≡ cond t mem (found_mem (allocation i).found r mem) ++ rest
        go true n = refl
        go false n = found_front n (allocation i).found refl

    restored_front : (k : ℕ) → k < 256 → LeavesRest (restore_mount_rest_mem k r) mem rest
    unfolding restore_mount_rest_mem
    restored_front k h =
        ap (λ (j : Instance). cond (no_room j r.path) (mem ++ rest) (planned_mem k r (mem ++ rest))) (view_front rest mem (laid_is mem e))
        ∙ go (no_room i r.path) refl
      where
        go : (t : Bool) → no_room i r.path ≡ t → cond t (mem ++ rest) (planned_mem k r (mem ++ rest)) ≡ cond t mem (planned_mem k r mem) ++ rest
        go true n = refl
        go false n = planned_front mem e k r h (view_in mem b) s n

  module _ (mem : List ℕ) (e : laid mem ≡ true) (b : Bytes mem) where
    pub mount_front : (r : Request) → LeavesRest (mount_mem r) mem rest
    unfolding mount_mem early
    mount_front r = rw (laid_front rest mem e, e) (go (early r) refl (rooted r.path))
      where
        go : (t : Bool) → early r ≡ t → (u : Bool)
            → cond t (mem ++ rest) (cond u (rooted_mem r (mem ++ rest)) (alloc_mem (mem ++ rest))) ≡ cond t mem (cond u (rooted_mem r mem) (alloc_mem mem)) ++ rest
        go true q u = refl
        go false q true = rooted_front mem e b r (or_neither _ _ (or_neither _ _ q).0).0
        go false q false = alloc_front mem e

    pub restore_front : (k : ℕ) (r : Request) → k < 256 → LeavesRest (restore_mount_mem k r) mem rest
    unfolding restore_mount_mem restore_mount_stopped
    restore_front k r h = rw (laid_front rest mem e, e) (go (restore_mount_stopped k r) refl)
      where
        go : (t : Bool) → restore_mount_stopped k r ≡ t → cond t (mem ++ rest) (restore_mount_rest_mem k r (mem ++ rest)) ≡ cond t mem (restore_mount_rest_mem k r mem) ++ rest
        go true q = refl
        go false q = restored_front mem e b r (or_neither _ _ (or_neither _ _ (or_neither _ _ (or_neither _ _ q).0).0).0).0 k h

    pub unmount_front : (path : List ℕ) → LeavesRest (unmount_mem path) mem rest
    unfolding unmount_mem off_mem
    unmount_front path =
        rw (laid_front rest mem e, e)
        (ap (λ (i : Instance). cond (bad_path path) (mem ++ rest) (off_mem (reached i path) (reached_mount i (reached i path)) (mem ++ rest))) (view_front rest mem (laid_is mem e))
        ∙ go (bad_path path) (reached (view mem) path))
      where
        off : (x : ℕ) (m : Option Mount) → mount_of_node (view mem).tree x ≡ m → off_mem (Some x) m (mem ++ rest) ≡ off_mem (Some x) m mem ++ rest
        off x None q = refl
        off x (Some m) q = take_off_front rest mem e m x (subst InSlots q (mount_in_lem (view mem).tree x (view_in mem b)))

        go : (t : Bool) (o : Option ℕ) → cond t (mem ++ rest) (off_mem o (reached_mount (view mem) o) (mem ++ rest)) ≡ cond t mem (off_mem o (reached_mount (view mem) o) mem) ++ rest
        go true o = refl
        go false None = refl
        go false (Some x) = off x (mount_of_node (view mem).tree x) refl
