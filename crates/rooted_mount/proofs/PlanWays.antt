-- What each way through the mounts of a path with leading slash gives: the nodes of the path found or made, and the rows from 4 on. Assumes nothing.
use mathlib.Core.Path.{◌≡◌, refl, sym, ap, ◌∙◌}
use mathlib.Core.Bool.{Bool, true, false, cond, not}
use mathlib.Core.List.{List, []}
use Rattle.std.specs.Prelude.{Option, None, Some, Result, Ok, Err}
use Prim.Native.Nat.{ℕ, ◌+◌, ◌^◌, ◌≤◌, ◌<◌}
use native.Mathlib.Omega.{arith}
use lib.ListN.{length, take}
use lib.Dec.{ltb}
use Rattle.rules.specs.Numbers.{max_nodes, max_ino, DONE, INVAL, INODE, FULL, NOROOM}
use Rattle.rules.specs.declared.codes.VfsError.{VfsError}
use Rattle.rules.specs.declared.codes.VfsError.TheVariants.{NoRoom, Full}
use Rattle.rules.specs.Path.{rooted, too_long}
use Rattle.rules.specs.Tree.{Mount, Made}
use Rattle.rules.specs.Instance.{Instance, mount_of_node, tag_of}
use Rattle.rules.specs.Outcome.{Answer, Outcome, nothing, mounted, restored_mount, refused, says, first_of}
use Rattle.rules.specs.Mount.{Request, planned, no_room, ended, walked_to, ended_mount, freed, tag_at, placed, allocation, stepped, allocated, mount_by_index, restore_mount_by_index}
use Rattle.rules.specs.Reached.{reached}
use Rattle.rules.proofs.Planned.{planned_none}
use Rattle.index.specs.declared.Allocated.{Allocated}
use Rattle.tables.specs.Table.{tab}
use Rattle.tables.specs.Layout.{next_of, count_of, capacity_of}
use Rattle.tables.specs.View.{view}
use Rattle.tables.specs.Laid.{laid, Bounds}
use Rattle.call_form.specs.Form.{Told, told_by, counted}
use Rattle.tables.proofs.Keeps.{laid_is}
use Rattle.plan.specs.Plan.{planned_from, Within, Plans}
use Rattle.plan.specs.Apply.{append_all}
use Rattle.plan.specs.declared.Planned.{Planned}
use Rattle.plan.specs.declared.PlannedNode.{PlannedNode}
use Rattle.plan.proofs.PlannedNodes.{planned_length, planned_taken, within_taken}
use Rattle.plan.proofs.Spare.{room_left}
use Rattle.plan.proofs.Walked.{Fitted, fitted, room_none, fitted_over, view_walked, keeps_walked}
use Rattle.mount_parts.specs.Follows.{Follows}
use Rattle.mount_parts.specs.Mounting.{request_of, mounted_told, end_mem, walk_mem, planned_mem, found_mem, rooted_mem, rooted_rule, EndsAt, MountsAt, Allocates}
use Rattle.mount_parts.specs.RestoredMounting.{restored_mount_told, restore_mount_rest, restore_mount_rest_mem, RestoresMountAt}
use Rattle.mount_parts.specs.declared.backend.Backend.{Backend}
use Rattle.mount_parts.specs.declared.mounting.Mounted.{Mounted}
use Rattle.mount_parts.specs.declared.mounting.MountRefused.{MountRefused}
use Rattle.mount_parts.specs.declared.restored_mounting.RestoredMount.{RestoredMount}
use Rattle.mount_parts.proofs.MountWays.{found_is, visited_is}
use Rattle.rooted_mount.specs.PathEnds.{Lacks}

-- ---- where the path ends

-- the walk finds it
pub walk_lacks : (mem path : List ℕ) → laid mem ≡ true → (x : ℕ) → reached (view mem) path ≡ Some x → Lacks mem path [] x
unfolding planned_from tab
walk_lacks mem path l x e =
    let p : planned (view mem).tree path ≡ record { nodes = []; here = x } = planned_none (view mem) path x e in
    record {
      room = room_none mem path x (laid_is mem l) p;
      nodes = sym (ap (λ (q : Made). q.nodes) p);
      ends = sym (ap (λ (q : Made). q.here) p);
      named = λ j h. absurd (omega arith);
    }

-- the plan has the nodes that it lacks, as the first of the room
module _ (mem path : List ℕ) (l : laid mem ≡ true) (t : List PlannedNode) (q : Planned) (p : Plans mem path t (Ok q)) where
  pub few : q.count ≤ max_nodes
  few = omega (arith, p.few, (laid_is mem l).few_nodes)

  pub plan_lacks : Lacks mem path (take q.count t) q.node
  plan_lacks =
      let h : q.count ≤ length t = omega (arith, few, p.sized) in
      let f = fitted mem path t p refl in
      record { room = f.room; nodes = planned_taken path (next_of mem) t q.count h ∙ f.nodes; ends = f.ends; named = within_taken path (next_of mem) t q.count h f.named }

-- there is room for them
fits : (mem path : List ℕ) (t : List PlannedNode) (x : ℕ) → Lacks mem path t x → Fitted mem path t x (length t)
fits mem path t x k =
    let size : length (planned (view mem).tree path).nodes ≡ length t = sym (ap length k.nodes) ∙ planned_length path (next_of mem) t (length t) in
    let left = room_left mem path k.room in
    record { room = k.room; ends = k.ends; nodes = k.nodes; rows = omega (arith, left.0); numbers = omega (arith, left.1); named = k.named }

-- the search changes nothing of the tree
pub again : (mem path : List ℕ) (a : Allocated) (mid : List ℕ) → Allocates mem a mid → (t : List PlannedNode) (x : ℕ) → Lacks mem path t x → Lacks mid path t x
again mem path a mid g t x k =
    let f = fitted_over mem mid path t x (length t) (λ i. (g.stands i).tree) (λ i. (g.stands i).fixed.capacity) (fits mem path t x k) in
    record { room = f.room; nodes = f.nodes; ends = f.ends; named = f.named }

-- ---- the nodes of the path: m has them all, and the path ends at x

pub record Leads (mem path m : List ℕ) (x : ℕ) : Type 0 where
  pub room : no_room (view mem) path ≡ false
  pub made : m ≡ walk_mem path mem
  pub ends : x ≡ ended (view mem) path

module _ (mem path : List ℕ) (l : laid mem ≡ true) where
  module _ (t : List PlannedNode) (x : ℕ) (k : Lacks mem path t x) where
    pub applies : Bounds mem × (((count_of mem + length t < capacity_of mem) × (next_of mem + length t ≤ 2 ^ 56)) × Within path t (length t))
    applies = let f = fits mem path t x k in (laid_is mem l, ((f.rows, f.numbers), f.named))

    pub plan_leads : (m : List ℕ) → m ≡ append_all (planned_from path (next_of mem) t 0 (length t)) mem → Leads mem path m x
    unfolding walk_mem
    plan_leads m e = record { room = k.room; made = e ∙ ap (λ ns. append_all ns mem) k.nodes; ends = k.ends }

  module _ (s : too_long path ≡ false) (m : List ℕ) (x : ℕ) (g : Leads mem path m x) where
    pub leads_laid : laid m ≡ true
    unfolding walk_mem
    leads_laid = ap laid g.made ∙ keeps_walked mem path l s g.room

    leads_view : view m ≡ walked_to path (view mem)
    unfolding walk_mem
    leads_view = ap view g.made ∙ view_walked mem path l s g.room

    leads_bytes : (k : ℕ) (b : Backend) → end_mem k (request_of [] b) x m ≡ planned_mem k (request_of path b) mem
    unfolding planned_mem end_mem
    leads_bytes k b = λ i. end_mem k (request_of [] b) (g.ends i) (g.made i)

-- ---- rows 7 and 8, told by the rule's outcomes

ends_follow : (m : List ℕ) (k x : ℕ) (b : Backend) (v : Answer) (n : ℕ) (t : Told) (after : List ℕ) → EndsAt m k x b v n t after → (o big done : Outcome) (exact : List ℕ)
    → o ≡ cond (ltb max_ino b.root.0) big done → told_by big ≡ counted INODE n → told_by done ≡ record { code = DONE; answer = v; count = n }
    → big.after ≡ view m → done.after ≡ placed k (request_of [] b) x (view m) → end_mem k (request_of [] b) x m ≡ exact → Follows o exact t after
ends_follow m k x b v n t after s o big done exact rule tb td ab ad e = go (ltb max_ino b.root.0) rule s.told s.stands
  where
    go : (c : Bool) → o ≡ cond c big done → t ≡ cond c (counted INODE n) (record { code = DONE; answer = v; count = n }) → view after ≡ cond c (view m) (placed k (request_of [] b) x (view m)) → Follows o exact t after
    go true r u w = record { told = u ∙ sym tb ∙ sym (ap told_by r); bytes = s.bytes ∙ e; stands = w ∙ sym ab ∙ sym (λ i. (r i).after); keeps = s.keeps }
    go false r u w = record { told = u ∙ sym td ∙ sym (ap told_by r); bytes = s.bytes ∙ e; stands = w ∙ sym ad ∙ sym (λ i. (r i).after); keeps = s.keeps }

-- tags are of the slots alone
tag_kept : (m : Option Mount) (i j : Instance) → i.indexes.slots ≡ j.indexes.slots → tag_at m i ≡ tag_at m j
unfolding tag_at
tag_kept None i j e = refl
tag_kept (Some m) i j e = rw e

freed_kept : (m : Option Mount) (i j : Instance) (k : ℕ) → i.indexes.slots ≡ j.indexes.slots → tag_of (freed m i) k ≡ tag_of (freed m j) k
freed_kept m i j k e = rw e

-- ---- mount

module _ (mem path : List ℕ) (b : Backend) where
  abbrev R : Request
  R = request_of path b

  abbrev Ends : Result Mounted MountRefused → List ℕ → Type 0
  Ends r after = Follows (rooted_rule (view mem) R) (rooted_mem R mem) (mounted_told r) after

  pub no_room_way : laid mem ≡ true → no_room (view mem) path ≡ true → Ends (Err (record { why = NoRoom; count = 0 })) mem
  unfolding rooted_mem
  no_room_way l z = record { told = rw z; bytes = rw z; stands = rw z; keeps = l }

  module _ (a : Allocated) (mid : List ℕ) (g : Allocates mem a mid) where
    module _ (room : no_room (view mem) path ≡ false) where
      pub full_way : a.answer ≡ None → Ends (Err (record { why = Full; count = a.count })) mid
      unfolding rooted_mem found_mem mount_by_index
      full_way f =
          let z : (allocation (view mem)).found ≡ None = sym (found_is mem a mid g) ∙ f in
          record { told = rw (room, z) (ap (counted FULL) (visited_is mem a mid g)); bytes = rw (room, z) g.bytes; stands = rw (room, z) g.stands; keeps = g.keeps }

      module _ (on : rooted path ≡ true) (k : ℕ) (f : a.answer ≡ Some k) where
        got : (allocation (view mem)).found ≡ Some k
        got = sym (found_is mem a mid g) ∙ f

        abbrev Walked : Instance
        Walked = walked_to path (stepped (view mem))

        abbrev Big : Outcome
        Big = allocated (view mem) INODE nothing Walked

        abbrev Done : Outcome
        Done = allocated (view mem) DONE (mounted k (tag_at (ended_mount (view mem) path) (view mem))) (placed k R (ended (view mem) path) Walked)

        rule_is : rooted_rule (view mem) R ≡ cond (ltb max_ino b.root.0) Big Done
        unfolding mount_by_index first_of
        rule_is =
            ap (λ (c : Bool). cond c (refused NOROOM (view mem)) (mount_by_index (view mem) R (allocation (view mem)).found)) room
            ∙ ap (mount_by_index (view mem) R) got
            ∙ ap (λ (o : Bool). cond (not o) (allocated (view mem) INVAL nothing (stepped (view mem))) (cond (ltb max_ino b.root.0) Big Done)) on

        pub mounts_way : too_long path ≡ false → (m : List ℕ) (x : ℕ) → Leads mid path m x → (r : Result Mounted MountRefused) (after : List ℕ) → MountsAt m k a.count x b r after → Ends r after
        unfolding placed rooted_mem found_mem
        mounts_way s m x w r after e =
            let v : view m ≡ Walked = leads_view mid path g.keeps s m x w ∙ ap (walked_to path) g.stands in
            let y : x ≡ ended (view mem) path = w.ends ∙ (λ i. ended (g.stands i) path) in
            let tag : tag_at (mount_of_node (view m).tree x) (view m) ≡ tag_at (ended_mount (view mem) path) (view mem) =
            (λ i. tag_at (mount_of_node (v i).tree (y i)) (v i)) ∙ tag_kept (ended_mount (view mem) path) Walked (view mem) refl in
            ends_follow m k x b _ a.count (mounted_told r) after e (rooted_rule (view mem) R) Big Done (rooted_mem R mem) rule_is (ap (counted INODE) (sym (visited_is mem a mid g)))
            (λ i. record { code = DONE; answer = mounted k (sym tag i); count = sym (visited_is mem a mid g) i }) (sym v) (λ i. placed k R (sym y i) (sym v i))
            (leads_bytes mid path g.keeps s m x w k b ∙ rw (room, got) (ap (planned_mem k R) g.bytes))

-- ---- restored mount

module _ (mem path : List ℕ) (k : ℕ) (b : Backend) where
  abbrev Q : Request
  Q = request_of path b

  abbrev Back : Result RestoredMount VfsError → List ℕ → Type 0
  Back r after = Follows (restore_mount_rest (view mem) k Q) (restore_mount_rest_mem k Q mem) (restored_mount_told r) after

  pub no_room_back : laid mem ≡ true → no_room (view mem) path ≡ true → Back (Err NoRoom) mem
  unfolding restore_mount_rest_mem
  no_room_back l z = record { told = rw z; bytes = rw z; stands = rw z; keeps = l }

  abbrev Big-back : Outcome
  Big-back = refused INODE (walked_to path (view mem))

  abbrev Done-back : Outcome
  Done-back = says (restored_mount (tag_at (ended_mount (view mem) path) (view mem)) (tag_of (freed (ended_mount (view mem) path) (view mem)) k)) (placed k Q (ended (view mem) path) (walked_to path (view mem)))

  back_is : no_room (view mem) path ≡ false → restore_mount_rest (view mem) k Q ≡ cond (ltb max_ino b.root.0) Big-back Done-back
  unfolding restore_mount_by_index first_of
  back_is room = rw room

  pub restores_way : laid mem ≡ true → too_long path ≡ false → (m : List ℕ) (x : ℕ) → Leads mem path m x → (r : Result RestoredMount VfsError) (after : List ℕ) → RestoresMountAt m k x b r after → Back r after
  unfolding placed restore_mount_rest_mem
  restores_way l s m x w r after e =
      let v : view m ≡ walked_to path (view mem) = leads_view mem path l s m x w in
      let y : x ≡ ended (view mem) path = w.ends in
      let tag : tag_at (mount_of_node (view m).tree x) (view m) ≡ tag_at (ended_mount (view mem) path) (view mem) =
      (λ i. tag_at (mount_of_node (v i).tree (y i)) (v i)) ∙ tag_kept (ended_mount (view mem) path) (walked_to path (view mem)) (view mem) refl in
      let slot : tag_of (freed (mount_of_node (view m).tree x) (view m)) k ≡ tag_of (freed (ended_mount (view mem) path) (view mem)) k =
      (λ i. tag_of (freed (mount_of_node (v i).tree (y i)) (v i)) k) ∙ freed_kept (ended_mount (view mem) path) (walked_to path (view mem)) (view mem) k refl in
      ends_follow m k x b _ 0 (restored_mount_told r) after e (restore_mount_rest (view mem) k Q) Big-back Done-back (restore_mount_rest_mem k Q mem)
      (back_is w.room) refl
      (λ i. record { code = DONE; answer = restored_mount (sym tag i) (sym slot i); count = 0 }) (sym v) (λ i. placed k Q (sym y i) (sym v i))
      (leads_bytes mem path l s m x w k b ∙ rw w.room)
