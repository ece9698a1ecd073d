-- What a refusal leaves, of every call. Assumes nothing.
use mathlib.Core.Path.{◌≡◌, refl, sym, ap, ◌∙◌}
use mathlib.Core.Bool.{true, false, true≢false}
use mathlib.Core.Logic.{inl, inr, ⊎_elim}
use Rattle.std.specs.Prelude.{Option, None, Some}
use Prim.Native.Nat.{ℕ, ◌+◌, ◌%◌, ◌≤◌, ◌<◌}
use native.Mathlib.Omega.{arith}
use borrow.Author.Tests.{not-true, ltb-true}
use Rattle.rules.specs.Numbers.{max_ino, INVAL, INODE, FULL}
use Rattle.rules.specs.Utf8.{well_formed}
use Rattle.rules.specs.Path.{rooted}
use Rattle.rules.specs.Round.{until_twice, free_of, allocate}
use Rattle.rules.specs.Tree.{Mount}
use Rattle.rules.specs.Instance.{Instance, counter_of, held_in, with_counter}
use Rattle.rules.specs.Outcome.{nothing, Outcome, refused}
use Rattle.rules.specs.Mount.{Request, allocation, allocated, stepped, walked_to, mount_by_index, restore_mount_by_index}
use Rattle.rules.specs.Unmount.{unmounts}
use Rattle.rules.specs.Calls.{Call, mount, restore_mount, umount}
use Rattle.rules.specs.claims.Leaves.{ByRow2, ByRow3, Leaves, EveryRefusal}
use Rattle.rules.proofs.Rows.{first_of_lem}
use Rattle.rules.proofs.Round.{spent}
use Rattle.rules.proofs.Turn.{seen_moved}
use Rattle.rules.proofs.Still.{Still, still_refused}
use Rattle.rules.proofs.Ways.{is_mount, Passed, Early, every_call}

module _ (i : Instance) (c : Call) where
  -- a call that is done has no refusal to speak of
  done : (o : Outcome) → o.code ≡ 0 → Leaves i c o
  done o e = record {
    full = λ f. absurd (omega arith);
    inval = λ f. absurd (omega arith);
    inode = λ f. absurd (omega arith);
    others = λ f g h k. absurd (f e);
    values = λ f. absurd (f e);
  }

  -- a call that changes nothing, if its INVAL or INODE came from row 2 or 3
  unchanged : (o : Outcome) → (o.code ≡ INVAL → ByRow2 c) → (o.code ≡ INODE → ByRow3 c) → Still i o → Leaves i c o
  unchanged o v w s = record {
    full = λ f. absurd (s.not_full f);
    inval = λ f. inl ((s.visits, s.after), v f);
    inode = λ f. inl ((s.visits, s.after), w f);
    others = λ f g h k. (s.visits, s.after);
    values = λ f. ⊎_elim (λ (z : o.code ≡ 0). absurd (f z)) (λ v. v) s.bare;
  }

  early : (code : ℕ) → Early c code → Leaves i c (refused code i)
  early code e = unchanged (refused code i) e.inval e.inode (still_refused i code e.not_full)

  -- the call is no mount
  module _ (no : is_mount c ≡ false) where
    no_row2 : ByRow2 c
    no_row2 r e = absurd (true≢false (sym (ap is_mount e) ∙ no))

    no_row3 : ByRow3 c
    no_row3 r (inl e) = absurd (true≢false (sym (ap is_mount e) ∙ no))
    no_row3 r (inr (k, e)) = absurd (true≢false (sym (ap is_mount e) ∙ no))

    still : (o : Outcome) → Still i o → Leaves i c o
    still o s = unchanged o (λ e. no_row2) (λ e. no_row3) s

-- ---- mount: rows 5, 6 and 7

-- 257 steps are one step further
one_further : (i : Instance) → (allocation i).found ≡ None → (allocation i).counter ≡ (counter_of i + 1) % 256
unfolding allocation allocate until_twice
one_further i e = omega (arith, spent (free_of (held_in i)) 257 (counter_of i) e)

module _ (i : Instance) (r : Request) where
  row5 : (allocation i).found ≡ None → Leaves i (mount r) (allocated i FULL nothing (stepped i))
  row5 e = record {
    full = λ f. ap (λ (n : ℕ). with_counter n i) (one_further i e);
    inval = λ f. absurd (omega arith);
    inode = λ f. absurd (omega arith);
    others = λ f g h k. absurd (g refl);
    values = λ f. (refl, refl);
  }

  row6 : well_formed r.path ≡ true → rooted r.path ≡ false → Leaves i (mount r) (allocated i INVAL nothing (stepped i))
  row6 u e = record {
    full = λ f. absurd (omega arith);
    inval = λ f. inr (r, record { call = refl; utf8 = u; slash = e; leaves = ap (λ (n : ℕ). with_counter n i) (seen_moved i) });
    inode = λ f. absurd (omega arith);
    others = λ f g h k. absurd (h refl);
    values = λ f. (refl, refl);
  }

  row7 : r.largest ≤ max_ino → max_ino < r.root → Leaves i (mount r) (allocated i INODE nothing (walked_to r.path (stepped i)))
  row7 l b = record {
    full = λ f. absurd (omega arith);
    inval = λ f. absurd (omega arith);
    inode = λ f. inr (inl (r, record { call = refl; largest = l; root = b; leaves = ap (λ (n : ℕ). walked_to r.path (with_counter n i)) (seen_moved i) }));
    others = λ f g h k. absurd (k refl);
    values = λ f. (refl, refl);
  }

  mount_as : Passed i r → (k : Option ℕ) → (allocation i).found ≡ k → Leaves i (mount r) (mount_by_index i r k)
  unfolding mount_by_index
  mount_as p None e = row5 e
  mount_as p (Some k) e =
      first_of_lem (Leaves i (mount r)) _ _
      (λ a. row6 p.utf8 (not-true (rooted r.path) a), λ a. (λ b. row7 p.largest (ltb-true max_ino r.root b), λ b. done i (mount r) _ refl))

-- ---- restored mount: row 7

module _ (i : Instance) (k : ℕ) (r : Request) (p : Passed i r) where
  abbrev call : Call
  call = restore_mount k r

  restored_row7 : max_ino < r.root → Leaves i call (refused INODE (walked_to r.path i))
  restored_row7 b = record {
    full = λ f. absurd (omega arith);
    inval = λ f. absurd (omega arith);
    inode = λ f. inr (inr (k, r, record { call = refl; largest = p.largest; root = b; leaves = refl }));
    others = λ f g h l. absurd (l refl);
    values = λ f. (refl, refl);
  }

  restored_as : Leaves i call (restore_mount_by_index i k r)
  unfolding restore_mount_by_index
  restored_as =
      first_of_lem (Leaves i call) _ _ (λ b. restored_row7 (ltb-true max_ino r.root b), λ b. done i call _ refl)

unmounted : (i : Instance) (c : Call) (x : ℕ) (m : Mount) → Leaves i c (unmounts i x m)
unfolding unmounts
unmounted i c x m = done i c _ refl

-- the theorem
pub leaves : EveryRefusal
leaves = every_call Leaves (record {
  still = λ i c o q s. still i c q o s;
  early = early;
  mounts = λ i r p. mount_as i r p (allocation i).found refl;
  restores_mount = λ i k r p on. restored_as i k r p;
  unmounted = λ i path x m q e. unmounted i (umount path) x m;
  sets_removal = λ i. done i _ _ refl;
  state_restored = λ i b ok. done i _ _ refl;
})
