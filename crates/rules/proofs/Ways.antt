-- A way to prove a thing of every call: once for all that change nothing, once for a mount or a restored mount that an early row refuses, and once for each that can
-- change something. Assumes nothing.
use mathlib.Core.Path.{◌≡◌, refl, sym}
use mathlib.Core.Bool.{Bool, true, false, ◌&&◌, ◌||◌}
use mathlib.Core.Logic.{inl, inr}
use mathlib.Core.List.{List}
use Rattle.std.specs.Prelude.{Option, None, Some}
use Prim.Native.Nat.{ℕ, ◌+◌, ◌≤◌, ◌<◌}
use native.Mathlib.Omega.{arith}
use lib.ListN.{length}
use lib.Dec.{eqb, ltb}
use borrow.Author.Tests.{eqb-false, not-true, not-false, ltb-true, ltb-false, le-ltb}
use Rattle.rules.specs.Numbers.{max_ino, TOOLONG, INVAL, INODE, FULL, NOROOM, BADINDEX}
use Rattle.rules.specs.Utf8.{well_formed}
use Rattle.rules.specs.Path.{rooted, too_long}
use Rattle.rules.specs.Tree.{Mount}
use Rattle.rules.specs.Instance.{Instance, mount_of_node, removing}
use Rattle.rules.specs.Outcome.{nothing, Outcome, refused, says, first_of}
use Rattle.rules.specs.Create.{unknown}
use Rattle.rules.specs.Mount.{Request, no_room, allocation, mount_by_index, mount_rule, restore_mount_by_index, restore_mount_rule}
use Rattle.rules.specs.Reached.{reached, reached_mount}
use Rattle.rules.specs.Unmount.{unmounts, unmount_at, unmount_rule}
use Rattle.rules.specs.Saved.{accepted, state_of}
use Rattle.rules.specs.StateRestore.{fresh, state_restored_to, restore_state_rule}
use Rattle.rules.specs.Calls.{Call, mount, restore_mount, umount, set_remove_pseudo_root, restore_from_bytes, ask, rule}
use Rattle.rules.specs.claims.Leaves.{ByRow2, ByRow3}
use Rattle.rules.proofs.Tests.{or_neither}
use Rattle.rules.proofs.Rows.{first_of_lem}
use Rattle.rules.proofs.Still.{Still, still_refused, asked_still}

-- the call is a mount or a restored mount
abbrev pub is_mount : Call → Bool
is_mount (mount r) = true
is_mount (restore_mount k r) = true
is_mount (umount path) = false
is_mount set_remove_pseudo_root = false
is_mount (restore_from_bytes b) = false
is_mount (ask q) = false

-- a request that rows 1 to 4 let pass
pub record Passed (i : Instance) (r : Request) : Type 0 where
  pub short : too_long r.path ≡ false
  pub utf8 : well_formed r.path ≡ true
  pub largest : r.largest ≤ max_ino
  pub room : (rooted r.path && no_room i r.path) ≡ false

-- a mount or a restored mount that an early row refuses with this number
pub record Early (c : Call) (code : ℕ) : Type 0 where
  pub not_full : code ≡ FULL → ⊥
  pub inval : code ≡ INVAL → ByRow2 c
  pub inode : code ≡ INODE → ByRow3 c

-- a restore that no test refuses
pub record Restorable (i : Instance) (b : List ℕ) : Type 0 where
  pub is_fresh : fresh i ≡ true
  pub is_accepted : accepted b ≡ true
  pub options : unknown i.fixed.known (state_of b).options ≡ false
  pub room : ltb i.fixed.capacity (1 + length (state_of b).nodes) ≡ false

-- ---- early rows

-- with none of the numbers that `Early` names
plainly : (c : Call) (code : ℕ) → (eqb code FULL || (eqb code INVAL || eqb code INODE)) ≡ false → Early c code
plainly c code e =
    let a = or_neither (eqb code FULL) (eqb code INVAL || eqb code INODE) e in
    let b = or_neither (eqb code INVAL) (eqb code INODE) a.1 in
    record { not_full = eqb-false code FULL a.0; inval = λ q. absurd (eqb-false code INVAL b.0 q); inode = λ q. absurd (eqb-false code INODE b.1 q) }

not_utf8 : (c : Call) → ByRow2 c → Early c INVAL
not_utf8 c v = record { not_full = λ e. omega arith; inval = λ e. v; inode = λ e. absurd (omega arith) }

too_large : (c : Call) → ByRow3 c → Early c INODE
too_large c n = record { not_full = λ e. omega arith; inval = λ e. absurd (omega arith); inode = λ e. n }

module _ (r : Request) where
  mount_row2 : well_formed r.path ≡ false → ByRow2 (mount r)
  mount_row2 u q e = let s : r ≡ q = cc in rw (sym s) u

  mount_row3 : max_ino < r.largest → ByRow3 (mount r)
  mount_row3 l q (inl e) = let s : r ≡ q = cc in rw (sym s) l
  mount_row3 l q (inr (k, e)) = let z : ◌≡◌ {A = ℕ} 0 1 = cc in absurd (omega arith)

  -- it is no mount
  restored_row2 : (k : ℕ) → ByRow2 (restore_mount k r)
  restored_row2 k q e = let z : ◌≡◌ {A = ℕ} 0 1 = cc in absurd (omega arith)

  restored_row3 : (k : ℕ) → max_ino < r.largest → ByRow3 (restore_mount k r)
  restored_row3 k l q (inl e) = let z : ◌≡◌ {A = ℕ} 0 1 = cc in absurd (omega arith)
  restored_row3 k l q (inr (j, e)) = let s : r ≡ q = cc in rw (sym s) l

-- ---- mount

-- one that rows 1 to 4 let pass goes by what the search finds, over the slots as they are before it (R90)
pub mount_passed : (i : Instance) (r : Request) → Passed i r → mount_rule i r ≡ mount_by_index i r (allocation i).found
unfolding mount_rule first_of
mount_passed i r p = rw (p.short, p.utf8, le-ltb max_ino r.largest p.largest, p.room)

-- ---- every call

-- what is to be proved of a call and its outcome
module _ (P : Instance → Call → Outcome → Type 0) where
  pub record Cases : Type 0 where
    pub still : (i : Instance) (c : Call) (o : Outcome) → is_mount c ≡ false → Still i o → P i c o
    pub early : (i : Instance) (c : Call) (code : ℕ) → Early c code → P i c (refused code i)
    pub mounts : (i : Instance) (r : Request) → Passed i r → P i (mount r) (mount_by_index i r (allocation i).found)
    pub restores_mount : (i : Instance) (k : ℕ) (r : Request) → Passed i r → rooted r.path ≡ true → P i (restore_mount k r) (restore_mount_by_index i k r)
    pub unmounted : (i : Instance) (path : List ℕ) (x : ℕ) (m : Mount) → reached i path ≡ Some x → mount_of_node i.tree x ≡ Some m → P i (umount path) (unmounts i x m)
    pub sets_removal : (i : Instance) → P i set_remove_pseudo_root (says nothing (removing i))
    pub state_restored : (i : Instance) (b : List ℕ) → Restorable i b → P i (restore_from_bytes b) (says nothing (state_restored_to (state_of b) i))

  module _ (h : Cases) (i : Instance) where
    mount_case : (r : Request) → P i (mount r) (mount_rule i r)
    unfolding mount_rule
    mount_case r =
        let early = h.early i (mount r) in
        first_of_lem (P i (mount r)) _ _ (
          λ a. early _ (plainly (mount r) TOOLONG refl),
          λ a. (
            λ b. early _ (not_utf8 (mount r) (mount_row2 r (not-true _ b))),
            λ b. (
              λ d. early _ (too_large (mount r) (mount_row3 r (ltb-true max_ino r.largest d))),
              λ d. (
                λ n. early _ (plainly (mount r) NOROOM refl),
                λ n. h.mounts i r (record { short = a; utf8 = not-false _ b; largest = ltb-false max_ino r.largest d; room = n }),
              ),
            ),
          ),
        )

    restore_mount_case : (k : ℕ) (r : Request) → P i (restore_mount k r) (restore_mount_rule i k r)
    unfolding restore_mount_rule
    restore_mount_case k r =
        let c = restore_mount k r in
        let early = h.early i c in
        first_of_lem (P i c) _ _ (
          λ a. early _ (plainly c TOOLONG refl),
          λ a. (
            λ b. early _ (not_utf8 c (restored_row2 r k)),
            λ b. (
              λ z. early _ (plainly c BADINDEX refl),
              λ z. (
                λ d. early _ (too_large c (restored_row3 r k (ltb-true max_ino r.largest d))),
                λ d. (
                  λ n. early _ (plainly c NOROOM refl),
                  λ n. (
                    λ s. early _ (not_utf8 c (restored_row2 r k)),
                    λ s. h.restores_mount i k r (record { short = a; utf8 = not-false _ b; largest = ltb-false max_ino r.largest d; room = n }) (not-false _ s),
                  ),
                ),
              ),
            ),
          ),
        )

    -- refused, with all as it was
    refusal : (c : Call) → is_mount c ≡ false → (code : ℕ) → (code ≡ FULL → ⊥) → P i c (refused code i)
    refusal c q code f = h.still i c (refused code i) q (still_refused i code f)

    unmount_at_lem : (path : List ℕ) (x : Option ℕ) (m : Option Mount) → reached i path ≡ x → reached_mount i x ≡ m → P i (umount path) (unmount_at i x m)
    unfolding unmount_at
    unmount_at_lem path None m q e = refusal (umount path) refl _ (λ f. omega arith)
    unmount_at_lem path (Some x) None q e = refusal (umount path) refl _ (λ f. omega arith)
    unmount_at_lem path (Some x) (Some m) q e = h.unmounted i path x m q e

    unmount_case : (path : List ℕ) → P i (umount path) (unmount_rule i path)
    unfolding unmount_rule
    unmount_case path =
        first_of_lem (P i (umount path)) _ _ (
          λ a. refusal (umount path) refl _ (λ f. omega arith),
          λ a. unmount_at_lem path (reached i path) (reached_mount i (reached i path)) refl refl,
        )

    restore_case : (b : List ℕ) → P i (restore_from_bytes b) (restore_state_rule i b)
    unfolding restore_state_rule
    restore_case b =
        let refuse = refusal (restore_from_bytes b) refl in
        first_of_lem (P i (restore_from_bytes b)) _ _ (
          λ a. refuse _ (λ f. omega arith),
          λ a. (
            λ c. refuse _ (λ f. omega arith),
            λ c. (
              λ d. refuse _ (λ f. omega arith),
              λ d. (
                λ e. refuse _ (λ f. omega arith),
                λ e. h.state_restored i b (record { is_fresh = not-false _ a; is_accepted = not-false _ c; options = d; room = e }),
              ),
            ),
          ),
        )

  pub every_call : Cases → (i : Instance) (c : Call) → P i c (rule i c)
  unfolding rule
  every_call h i (mount r) = mount_case h i r
  every_call h i (restore_mount k r) = restore_mount_case h i k r
  every_call h i (umount path) = unmount_case h i path
  every_call h i set_remove_pseudo_root = h.sets_removal i
  every_call h i (restore_from_bytes b) = restore_case h i b
  every_call h i (ask q) = h.still i _ _ refl (asked_still i q)
