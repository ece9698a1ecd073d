-- What never changes, of every call. Assumes nothing.
use mathlib.Core.Path.{◌≡◌, refl, sym, ap, ◌∙◌, subst}
use mathlib.Core.Bool.{true, not, ◌&&◌}
use mathlib.Core.List.{List, [], ◌∷◌}
use Rattle.std.specs.Prelude.{Option, None, Some}
use Prim.Native.Nat.{ℕ, ◌+◌, ◌≤◌, ◌<◌}
use native.Mathlib.Omega.{arith}
use lib.Dec.{eqb}
use borrow.Author.Tests.{eqb-true, eqb-false, not-true, not-false}
use Rattle.rules.specs.Numbers.{root_number}
use Rattle.rules.specs.Tree.{Mount, Node}
use Rattle.rules.specs.Instance.{Indexes, Tree, Instance, with_indexes, with_tree, set_mount}
use Rattle.rules.specs.Outcome.{nothing, Outcome, refused, says}
use Rattle.rules.specs.Mount.{Request, placed, allocation, mount_by_index, restore_mount_by_index}
use Rattle.rules.specs.Unmount.{taken, unmounts}
use Rattle.rules.specs.Saved.{SavedNode, state_of}
use Rattle.rules.specs.StateRestore.{saved_nodes, nodes_of_records, fresh, state_restored_to}
use Rattle.rules.specs.Calls.{Call, mount, restore_mount, umount, restore_from_bytes, rule}
use Rattle.rules.specs.claims.Driven.{Rises}
use Rattle.rules.specs.claims.Stays.{mounts_in, mounts_of, NoMounting, Stays, EveryStays, RemovalSet, TakenOver, EveryTakenOver, Absent, Distinct, NumbersOnce}
use Rattle.rules.proofs.Rows.{each_of, either}
use Rattle.rules.proofs.Ways.{every_call}
use Rattle.rules.proofs.Driven.{facts, fresh_bare}
use Rattle.rules.proofs.SaveThenRestore.{restore_done}

-- ---- what a mounting call keeps

-- all but the tree, the slots and the counter is as it was
record Rest (i j : Instance) : Type 0 where
  fixed : j.fixed ≡ i.fixed
  removal : j.removal ≡ i.removal
  options : j.options ≡ i.options
  initialized : j.initialized ≡ i.initialized

rest : (i : Instance) (t : Tree) (x : Indexes) → Rest i (with_tree t (with_indexes x i))
rest i t x = record { fixed = refl; removal = refl; options = refl; initialized = refl }

record Keeps (i : Instance) (o : Outcome) : Type 0 where
  others : Rest i o.after
  next : i.tree.next ≤ o.after.tree.next

keeps_stays : (i : Instance) (c : Call) (o : Outcome) → (NoMounting c → ⊥) → Keeps i o → Stays i c o
keeps_stays i c o h k = record {
  fixed = k.others.fixed;
  removal = λ e. k.others.removal ∙ e;
  removal_kept = λ n. k.others.removal;
  options = λ n. k.others.options;
  initialized = λ n. k.others.initialized;
  mounts = λ n. absurd (h n);
  slots = λ n. absurd (h n);
  next = λ n. k.next;
}

pub set_next : (t : Tree) (x : ℕ) (m : Option Mount) → (set_mount t x m).next ≡ t.next
unfolding set_mount
set_next t x m = either (λ (s : Tree). s.next ≡ t.next) (eqb x root_number) (λ e. refl) (λ e. refl)

placed_rest : (k : ℕ) (r : Request) (x : ℕ) (i j : Instance) → Rest i j → Rest i (placed k r x j)
unfolding placed
placed_rest k r x i j q = record { fixed = q.fixed; removal = q.removal; options = q.options; initialized = q.initialized }

placed_next : (n k : ℕ) (r : Request) (x : ℕ) (i : Instance) → n ≤ i.tree.next → n ≤ (placed k r x i).tree.next
unfolding placed
placed_next n k r x i l = rw (set_next i.tree x _) l

mount_as : (i : Instance) (r : Request) (k : Option ℕ) → Keeps i (mount_by_index i r k)
unfolding mount_by_index
mount_as i r None = record { others = rest i _ _; next = omega arith }
mount_as i r (Some k) =
    each_of (Keeps i) _ _ (
      record { others = rest i _ _; next = omega arith },
      (
        record { others = rest i _ _; next = omega arith },
        record { others = placed_rest _ _ _ i _ (rest i _ _); next = placed_next _ _ _ _ _ (omega arith) },
      ),
    )

restored_as : (i : Instance) (k : ℕ) (r : Request) → Keeps i (restore_mount_by_index i k r)
unfolding restore_mount_by_index
restored_as i k r =
    each_of (Keeps i) _ _ (
      record { others = rest i _ _; next = omega arith },
      record { others = placed_rest _ _ _ i _ (rest i _ _); next = placed_next _ _ _ _ _ (omega arith) },
    )

taken_next : (i : Instance) (x : ℕ) → (taken i x).next ≡ i.tree.next
unfolding taken
taken_next i x =
    either (λ (s : Tree). s.next ≡ i.tree.next) (i.removal && not (eqb x root_number)) (λ e. set_next i.tree x None) (λ e. set_next i.tree x None)

unmounted : (i : Instance) (x : ℕ) (m : Mount) → Keeps i (unmounts i x m)
unfolding unmounts
unmounted i x m = record { others = rest i _ _; next = omega (arith, taken_next i x) }

-- ---- the others

still_stays : (i : Instance) (c : Call) (o : Outcome) → o.after ≡ i → Stays i c o
still_stays i c o s = record {
  fixed = ap (λ (j : Instance). j.fixed) s;
  removal = λ e. ap (λ (j : Instance). j.removal) s ∙ e;
  removal_kept = λ n. ap (λ (j : Instance). j.removal) s;
  options = λ n. ap (λ (j : Instance). j.options) s;
  initialized = λ n. ap (λ (j : Instance). j.initialized) s;
  mounts = λ n. ap (λ (j : Instance). mounts_of j.tree) s;
  slots = λ n. ap (λ (j : Instance). j.indexes.slots) s;
  next = λ n. omega (arith, ap (λ (j : Instance). j.tree.next) s);
}

no_mounts_lem : (es : List SavedNode) → mounts_in (nodes_of_records es) ≡ []
unfolding mounts_in nodes_of_records
no_mounts_lem [] = refl
no_mounts_lem (e ∷ es) = no_mounts_lem es

state_restored : (i : Instance) (b : List ℕ) → fresh i ≡ true → Stays i (restore_from_bytes b) (says nothing (state_restored_to (state_of b) i))
unfolding state_restored_to mounts_in
state_restored i b a =
    let f = fresh_bare i a in
    record {
      fixed = refl;
      removal = λ g. g;
      removal_kept = λ n. refl;
      options = λ n. absurd (n b refl refl);
      initialized = λ n. absurd (n b refl refl);
      mounts = λ n. no_mounts_lem (state_of b).nodes ∙ sym (rw (f.0, f.1));
      slots = λ n. refl;
      next = λ n. absurd (n b refl);
    }

-- the theorem
pub stays : EveryStays
stays = every_call Stays (record {
  still = λ i c o m s. still_stays i c o s.after;
  early = λ i c code e. still_stays i c (refused code i) refl;
  mounts = λ i r p. keeps_stays i (mount r) _ (λ n. n.no_mount r refl) (mount_as i r (allocation i).found);
  restores_mount = λ i k r p on. keeps_stays i (restore_mount k r) _ (λ n. n.no_restored k r refl) (restored_as i k r);
  unmounted = λ i path x m q e. keeps_stays i (umount path) _ (λ n. n.no_unmount path refl) (unmounted i x m);
  sets_removal = λ i. record {
    fixed = refl;
    removal = λ e. refl;
    removal_kept = λ n. absurd (n refl);
    options = λ n. refl;
    initialized = λ n. refl;
    mounts = λ n. refl;
    slots = λ n. refl;
    next = λ n. omega arith;
  };
  state_restored = λ i b ok. state_restored i b ok.is_fresh;
})

-- the theorem: the call of the remove flag sets it
pub removal_set : RemovalSet
unfolding rule
removal_set i = refl

-- ---- what a done state restore takes over

taken_over : (i : Instance) (b : List ℕ) → TakenOver b (state_restored_to (state_of b) i)
unfolding state_restored_to
taken_over i b =
    let n = (state_of b).options.in_opts in
    record { options = refl; no_bits = λ e. eqb-true n 0 (not-false _ e); bits = λ e. eqb-false n 0 (not-true _ e) }

-- the theorem: its options, and whether they have a bit
pub every_taken_over : EveryTakenOver
unfolding rule
every_taken_over i b e = subst (TakenOver b) (sym (restore_done i b e).1) (taken_over i b)

-- ---- numbers

absent : (ns : List Node) (x low high : ℕ) → x < low → Rises low (saved_nodes ns) high → Absent x ns
unfolding Absent saved_nodes Rises
absent [] x low high l r = tt
absent (n ∷ ns) x low high l r = (λ e. omega (arith, r.0), absent ns x (n.number + 1) high (omega (arith, r.0)) r.1)

distinct : (ns : List Node) (low high : ℕ) → 2 ≤ low → Rises low (saved_nodes ns) high → Distinct ns
unfolding Distinct saved_nodes Rises
distinct [] low high l r = tt
distinct (n ∷ ns) low high l r =
    (λ e. omega (arith, r.0), absent ns n.number (n.number + 1) high (omega arith) r.1, distinct ns (n.number + 1) high (omega (arith, r.0)) r.1)

-- the theorem: no live number is given twice
pub numbers_once : NumbersOnce
numbers_once i d = distinct i.tree.nodes 2 i.tree.next (omega arith) (facts i d).tree.shape.rises
