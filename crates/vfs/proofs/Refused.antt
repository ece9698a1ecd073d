-- What a refused mount, restored mount or unmount leaves of the bytes, from the bytes that the contracts name. Assumes nothing.
use mathlib.Core.Path.{◌≡◌, refl, ap, ◌∙◌}
use mathlib.Core.Bool.{Bool, true, false, cond, ◌&&◌}
use mathlib.Core.Logic.{⊎_elim}
use mathlib.Core.List.{List}
use Rattle.std.specs.Prelude.{Option, None, Some}
use Prim.Native.Nat.{ℕ, ◌≤◌, ◌<◌}
use native.Mathlib.Omega.{arith}
use lib.ListN.{length}
use lib.Dec.{ltb}
use borrow.Author.Tests.{not-true, not-false, ltb-true, ltb-false}
use Rattle.rules.specs.Numbers.{max_ino, INODE}
use Rattle.rules.specs.Path.{rooted}
use Rattle.rules.specs.Tree.{Mount}
use Rattle.rules.specs.Outcome.{Outcome}
use Rattle.rules.specs.Mount.{Request, no_room, allocation, mount_by_index, mount_rule, restore_mount_by_index, restore_mount_rule}
use Rattle.rules.specs.Reached.{bad_path, reached, reached_mount}
use Rattle.rules.specs.Unmount.{unmounts, unmount_at, unmount_rule}
use Rattle.rules.proofs.Tests.{known, and_both, and_rest}
use Rattle.rules.proofs.Rows.{first_of_lem}
use Rattle.rules.proofs.Turn.{seen_moved, visits_some}
use Rattle.tables.specs.View.{view}
use Rattle.tables.specs.Laid.{laid}
use Rattle.tables.specs.Write.{set_counter}
use Rattle.call_form.specs.Form.{Told, told_by, answered_by}
use Rattle.mount_parts.specs.Mounting.{alloc_mem, end_mem, walk_mem, planned_mem, found_mem, rooted_mem, early, mount_mem}
use Rattle.mount_parts.specs.RestoredMounting.{restore_mount_rest_mem, restore_mount_stopped, restore_mount_mem}
use Rattle.vfs.specs.Unmounting.{off_mem, unmount_mem}
use Rattle.vfs.specs.Refused.{moved_mem, MountLeaves, RestoredMountLeaves, EveryRefusedCall}

-- what is told and what is left, by one test
split : (Q : Told → List ℕ → Type 0) (b : Bool) {t u : Told} {m n : List ℕ} → (b ≡ true → Q t m) → (b ≡ false → Q u n) → Q (cond b t u) (cond b m n)
split Q true h k = h refl
split Q false h k = k refl

-- ---- mount

module _ (r : Request) (mem : List ℕ) where
  counter_moved : alloc_mem mem ≡ moved_mem (length (allocation (view mem)).visits) mem
  unfolding alloc_mem
  counter_moved = ap (λ (c : ℕ). set_counter c mem) (seen_moved (view mem))

  module _ (t : Told) (after : List ℕ) where
    kept : t.count ≡ 0 → after ≡ mem → MountLeaves r mem t after
    kept z e = record { unvisited = λ f n. e; visited = λ f g p. absurd (omega arith); row7 = λ f p. absurd (omega arith) }

    done : t.code ≡ 0 → MountLeaves r mem t after
    done z = record { unvisited = λ f n. absurd (f z); visited = λ f g p. absurd (f z); row7 = λ f p. absurd (omega arith) }

    module _ (n : t.count ≡ length (allocation (view mem)).visits) where
      moved : (t.code ≡ INODE → ⊥) → after ≡ alloc_mem mem → MountLeaves r mem t after
      moved i e = record {
        unvisited = λ f z. absurd (omega (arith, visits_some (view mem)));
        visited = λ f g p. rw n (e ∙ counter_moved);
        row7 = λ f p. absurd (i f);
      }

      walked : t.code ≡ INODE → after ≡ walk_mem r.path (alloc_mem mem) → MountLeaves r mem t after
      walked i e = record {
        unvisited = λ f z. absurd (omega (arith, visits_some (view mem)));
        visited = λ f g p. absurd (g i);
        row7 = λ f p. rw n (e ∙ ap (walk_mem r.path) counter_moved);
      }

  -- behind rows 1 to 3
  abbrev later : List ℕ
  later = cond (rooted r.path) (rooted_mem r mem) (alloc_mem mem)

  unrooted : rooted r.path ≡ false → later ≡ alloc_mem mem
  unrooted e = rw e

  roomy : rooted r.path ≡ true → no_room (view mem) r.path ≡ false → later ≡ found_mem (allocation (view mem)).found r mem
  unfolding rooted_mem
  roomy e n = rw (e, n)

  row7_mem : (k : ℕ) → ltb max_ino r.root ≡ true → found_mem (Some k) r mem ≡ walk_mem r.path (alloc_mem mem)
  unfolding found_mem planned_mem end_mem
  row7_mem k e = rw e

  full_mem : (allocation (view mem)).found ≡ None → (rooted r.path && no_room (view mem) r.path) ≡ false → later ≡ alloc_mem mem
  unfolding found_mem
  full_mem f n =
      ⊎_elim (λ (a : rooted r.path ≡ true). roomy a (and_rest _ _ n a) ∙ ap (λ (o : Option ℕ). found_mem o r mem) f) unrooted (known (rooted r.path))

  rows : (o : Option ℕ) → (allocation (view mem)).found ≡ o → (rooted r.path && no_room (view mem) r.path) ≡ false → MountLeaves r mem (told_by (mount_by_index (view mem) r o)) later
  unfolding mount_by_index
  rows None f n = moved _ later refl (λ e. omega arith) (full_mem f n)
  rows (Some k) f n =
      first_of_lem (λ (o : Outcome). MountLeaves r mem (told_by o) later) _ _ (
        λ a. moved _ later refl (λ e. omega arith) (unrooted (not-true _ a)),
        λ a.
            let up = not-false _ a in
            (λ b. walked _ later refl refl (roomy up (and_rest _ _ n up) ∙ (ap (λ (o : Option ℕ). found_mem o r mem) f ∙ row7_mem k b)), λ b. done _ later refl),
      )

  tests : MountLeaves r mem (told_by (mount_rule (view mem) r)) (cond (early r) mem later)
  unfolding mount_rule early rooted_mem
  tests =
      first_of_lem (λ (o : Outcome). MountLeaves r mem (told_by o) (cond (early r) mem later)) _ _ (
        λ a. kept _ _ refl (rw a),
        λ a. (
          λ b. kept _ _ refl (rw (a, b)),
          λ b. (
            λ d. kept _ _ refl (rw (a, b, d)),
            λ d. (
              λ n. let w = and_both (rooted r.path) (no_room (view mem) r.path) n in kept _ _ refl (rw (a, b, d, w.0, w.1)),
              λ n. rw (a, b, d) (rows (allocation (view mem)).found refl n),
            ),
          ),
        ),
      )

  mount_leaves : MountLeaves r mem (answered_by mem (λ i. mount_rule i r)) (mount_mem r mem)
  unfolding answered_by mount_mem
  mount_leaves = split (MountLeaves r mem) (laid mem) (λ l. tests) (λ l. kept _ _ refl refl)

-- ---- restored mount

module _ (k : ℕ) (r : Request) (mem : List ℕ) where
  module _ (t : Told) (after : List ℕ) where
    restored_kept : (t.code ≡ INODE → ⊥) → after ≡ mem → RestoredMountLeaves r mem t after
    restored_kept n e = record { most = λ f g. e; row3 = λ i l. e; row7 = λ i l. absurd (n i) }

    restored_row3 : max_ino < r.largest → after ≡ mem → RestoredMountLeaves r mem t after
    restored_row3 l e = record { most = λ f g. e; row3 = λ i h. e; row7 = λ i h. absurd (omega arith) }

    restored_row7 : r.largest ≤ max_ino → t.code ≡ INODE → after ≡ walk_mem r.path mem → RestoredMountLeaves r mem t after
    restored_row7 l i e = record { most = λ f g. absurd (g i); row3 = λ j h. absurd (omega arith); row7 = λ j h. e }

    restored_done : t.code ≡ 0 → RestoredMountLeaves r mem t after
    restored_done z = record { most = λ f g. absurd (f z); row3 = λ i l. absurd (omega arith); row7 = λ i l. absurd (omega arith) }

  abbrev left : List ℕ
  left = cond (restore_mount_stopped k r) mem (restore_mount_rest_mem k r mem)

  restored_tests : RestoredMountLeaves r mem (told_by (restore_mount_rule (view mem) k r)) left
  unfolding restore_mount_rule restore_mount_by_index restore_mount_stopped restore_mount_rest_mem planned_mem end_mem
  restored_tests =
      first_of_lem (λ (o : Outcome). RestoredMountLeaves r mem (told_by o) left) _ _ (
        λ a. restored_kept _ _ (λ e. omega arith) (rw a),
        λ a. (
          λ b. restored_kept _ _ (λ e. omega arith) (rw (a, b)),
          λ b. (
            λ z. restored_kept _ _ (λ e. omega arith) (rw (a, b, z)),
            λ z. (
              λ d. restored_row3 _ _ (ltb-true max_ino r.largest d) (rw (a, b, z, d)),
              λ d. (
                λ n. let w = and_both (rooted r.path) (no_room (view mem) r.path) n in restored_kept _ _ (λ e. omega arith) (rw (a, b, z, d, w.0, w.1)),
                λ n. (
                  λ s. restored_kept _ _ (λ e. omega arith) (rw (a, b, z, d, s)),
                  λ s.
                      let m = and_rest (rooted r.path) (no_room (view mem) r.path) n (not-false _ s) in
                      first_of_lem (λ (o : Outcome). RestoredMountLeaves r mem (told_by o) left) _ _
                      (λ c. restored_row7 _ _ (ltb-false max_ino r.largest d) refl (rw (a, b, z, d, s, m, c)), λ c. restored_done _ _ refl),
                ),
              ),
            ),
          ),
        ),
      )

  restored_leaves : RestoredMountLeaves r mem (answered_by mem (λ i. restore_mount_rule i k r)) (restore_mount_mem k r mem)
  unfolding answered_by restore_mount_mem
  restored_leaves = split (RestoredMountLeaves r mem) (laid mem) (λ l. restored_tests) (λ l. restored_kept _ _ (λ e. omega arith) refl)

-- ---- unmount

module _ (path mem : List ℕ) where
  abbrev Keeps : Told → List ℕ → Type 0
  Keeps t after = (t.code ≡ 0 → ⊥) → after ≡ mem

  off : (x : Option ℕ) (m : Option Mount) → Keeps (told_by (unmount_at (view mem) x m)) (off_mem x m mem)
  unfolding unmount_at unmounts off_mem
  off None m f = refl
  off (Some x) None f = refl
  off (Some x) (Some m) f = absurd (f refl)

  unmount_tests : Keeps (told_by (unmount_rule (view mem) path)) (cond (bad_path path) mem (off_mem (reached (view mem) path) (reached_mount (view mem) (reached (view mem) path)) mem))
  unfolding unmount_rule
  unmount_tests =
      first_of_lem (λ (o : Outcome). Keeps (told_by o) (cond (bad_path path) mem (off_mem (reached (view mem) path) (reached_mount (view mem) (reached (view mem) path)) mem))) _ _
      (λ a f. rw a, λ a. rw a (off (reached (view mem) path) (reached_mount (view mem) (reached (view mem) path))))

  unmount_leaves : Keeps (answered_by mem (λ i. unmount_rule i path)) (unmount_mem path mem)
  unfolding answered_by unmount_mem
  unmount_leaves = split Keeps (laid mem) (λ l. unmount_tests) (λ l f. refl)

-- the theorem
pub refused_leaves : EveryRefusedCall
refused_leaves = record { mounts = mount_leaves; restores = restored_leaves; unmounts = unmount_leaves }
