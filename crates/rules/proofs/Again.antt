-- No number of a node is given again: a new node has the next number, and that only rises. Assumes nothing.
use mathlib.Core.Path.{◌≡◌, refl, sym, ◌∙◌, subst}
use mathlib.Core.Bool.{Bool, true, false, cond, not, ◌&&◌}
use mathlib.Core.List.{List, [], ◌∷◌}
use Rattle.std.specs.Prelude.{Option, None, Some}
use Rattle.std.proofs.lemmas.Option.{none-some}
use Prim.Native.Nat.{ℕ, ◌<◌}
use native.Mathlib.Omega.{arith}
use lib.Dec.{eqb}
use borrow.Author.Tests.{ne_eqb}
use Rattle.rules.specs.Numbers.{root_number}
use Rattle.rules.specs.Tree.{Mount, Node, node_in, with_mount, nodes_with_mount, without}
use Rattle.rules.specs.Instance.{Tree, Instance, set_mount, grown}
use Rattle.rules.specs.Outcome.{Outcome}
use Rattle.rules.specs.Mount.{Request, planned, requested_mount, placed, allocation, mount_by_index, restore_mount_by_index}
use Rattle.rules.specs.Unmount.{taken, unmounts}
use Rattle.rules.specs.Calls.{Call, rule}
use Rattle.rules.specs.claims.Trace.{NoStateRestore, WithoutStateRestore, after_all}
use Rattle.rules.specs.claims.Stays.{NeverAgain}
use Rattle.rules.proofs.Rows.{each_of, either}
use Rattle.rules.proofs.Walk.{node_second, planned_all}
use Rattle.rules.proofs.Ways.{every_call}

-- the number is below the next one, and no node has it
record Spent (x : ℕ) (t : Tree) : Type 0 where
  low : x < t.next
  gone : node_in t.nodes x ≡ None

-- ---- lists of nodes

none_mounted : (m : Option Mount) (ns : List Node) (y x : ℕ) → node_in ns x ≡ None → node_in (nodes_with_mount m ns y) x ≡ None
unfolding node_in nodes_with_mount
none_mounted m [] y x e = e
none_mounted m (n ∷ ns) y x e = go (eqb n.number y) (eqb n.number x) refl e (none_mounted m ns y x)
  where
    go : (a b : Bool) → eqb n.number x ≡ b → cond b (Some n) (node_in ns x) ≡ None → (node_in ns x ≡ None → node_in (nodes_with_mount m ns y) x ≡ None)
        → node_in (cond a (with_mount m n ∷ ns) (n ∷ nodes_with_mount m ns y)) x ≡ None
    go a true q f on = absurd (none-some n (sym f))
    go true false q f on = rw q f
    go false false q f on = rw q (on f)

none_without : (ns : List Node) (y x : ℕ) → node_in ns x ≡ None → node_in (without ns y) x ≡ None
unfolding node_in without
none_without [] y x e = e
none_without (n ∷ ns) y x e = go (eqb n.number y) (eqb n.number x) refl e (none_without ns y x)
  where
    go : (a b : Bool) → eqb n.number x ≡ b → cond b (Some n) (node_in ns x) ≡ None → (node_in ns x ≡ None → node_in (without ns y) x ≡ None)
        → node_in (cond a ns (n ∷ without ns y)) x ≡ None
    go a true q f on = absurd (none-some n (sym f))
    go true false q f on = f
    go false false q f on = rw q (on f)

-- ---- trees

module _ (x : ℕ) where
  grown_spent : (t : Tree) (path : List ℕ) → Spent x t → Spent x (grown (planned t path).nodes t)
  unfolding node_in
  grown_spent t path s = record {
    low = omega (arith, s.low);
    gone = planned_all (λ (ns : List Node). node_in ns x ≡ None) t (λ ns n l m e. node_second ns (n ∷ []) x e ∙ rw (ne_eqb n.number x (λ q. omega (arith, s.low)))) path s.gone;
  }

  set_spent : (t : Tree) (y : ℕ) (m : Option Mount) → Spent x t → Spent x (set_mount t y m)
  unfolding set_mount
  set_spent t y m s =
      either (Spent x) (eqb y root_number) (λ e. record { low = s.low; gone = s.gone }) (λ e. record { low = s.low; gone = none_mounted m t.nodes y x s.gone })

  taken_spent : (i : Instance) (y : ℕ) → Spent x i.tree → Spent x (taken i y)
  unfolding taken
  taken_spent i y s =
      let w = set_spent i.tree y None s in
      either (Spent x) (i.removal && not (eqb y root_number)) (λ e. record { low = w.low; gone = none_without _ y x w.gone }) (λ e. w)

  -- ---- calls

  abbrev LeavesSpent : Outcome → Type 0
  LeavesSpent o = Spent x o.after.tree

  placed_spent : (k : ℕ) (r : Request) (y : ℕ) (i : Instance) → Spent x i.tree → Spent x (placed k r y i).tree
  unfolding placed
  placed_spent k r y i s = set_spent i.tree y (Some (requested_mount k r)) s

  mount_as : (i : Instance) (r : Request) (k : Option ℕ) → Spent x i.tree → LeavesSpent (mount_by_index i r k)
  unfolding mount_by_index
  mount_as i r None s = s
  mount_as i r (Some k) s =
      let w = grown_spent i.tree r.path s in
      each_of LeavesSpent _ _ (s, (w, placed_spent _ _ _ _ w))

  restored_as : (i : Instance) (k : ℕ) (r : Request) → Spent x i.tree → LeavesSpent (restore_mount_by_index i k r)
  unfolding restore_mount_by_index
  restored_as i k r s =
      let w = grown_spent i.tree r.path s in
      each_of LeavesSpent _ _ (search w, placed_spent _ _ _ _ w)

  unmounted : (i : Instance) (y : ℕ) (m : Mount) → Spent x i.tree → LeavesSpent (unmounts i y m)
  unfolding unmounts
  unmounted i y m s = taken_spent i y s

  stays_spent : (i : Instance) (c : Call) → NoStateRestore c (rule i c) → Spent x i.tree → LeavesSpent (rule i c)
  stays_spent = every_call (λ i c o. NoStateRestore c o → Spent x i.tree → LeavesSpent o) (record {
    still = λ i c o q t un s. subst (λ (j : Instance). Spent x j.tree) (sym t.after) s;
    early = λ i c code e un s. s;
    mounts = λ i r p un s. mount_as i r (allocation i).found s;
    restores_mount = λ i k r p on un s. restored_as i k r s;
    unmounted = λ i path y m q e un s. unmounted i y m s;
    sets_removal = λ i un s. s;
    state_restored = λ i b ok un s. absurd (un b refl refl);
  })

  all_spent : (cs : List Call) (i : Instance) → WithoutStateRestore i cs → Spent x i.tree → Spent x (after_all i cs).tree
  unfolding WithoutStateRestore after_all
  all_spent [] i u s = s
  all_spent (c ∷ cs) i u s = all_spent cs (rule i c).after u.1 (stays_spent i c u.0 s)

-- the theorem
pub never_again : NeverAgain
never_again i x l e cs u = (all_spent x cs i u (record { low = l; gone = e })).gone
