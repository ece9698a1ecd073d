-- What a caller of the two steps knows: what each answer of the plan says, and what its application leaves. Assumes nothing.
use mathlib.Core.Path.{◌≡◌, refl, sym, ap, ◌∙◌, subst}
use mathlib.Core.Bool.{Bool, true, false, cond, not}
use mathlib.Core.List.{List, []}
use Rattle.std.specs.Prelude.{Result, Ok, Err}
use Rattle.rules.specs.declared.codes.VfsError.{VfsError}
use Rattle.rules.specs.declared.codes.VfsError.TheVariants.{NoRoom}
use Prim.Native.Nat.{ℕ, ◌+◌, ◌^◌, ◌≤◌, ◌<◌}
use native.Mathlib.Omega.{arith}
use lib.ListN.{length}
use lib.Dec.{leb}
use borrow.Author.Tests.{le-leb}
use Rattle.rules.specs.Path.{too_long}
use Rattle.rules.specs.Tree.{Made}
use Rattle.rules.specs.Instance.{Tree}
use Rattle.rules.specs.Mount.{planned, needed, no_room, ended, walked_to}
use Rattle.tables.specs.Layout.{capacity_of, count_of, next_of}
use Rattle.tables.specs.View.{view}
use Rattle.tables.specs.Laid.{laid, Bounds}
use Rattle.plan.specs.declared.Planned.{Planned}
use Rattle.plan.specs.declared.PlannedNode.{PlannedNode}
use Rattle.plan.specs.Plan.{planned_from, Within, room_of, plan_told, fitting, Plans}
use Rattle.plan.specs.Apply.{append_all}
use Rattle.plan.proofs.PlannedNodes.{planned_length}
use Rattle.plan.proofs.Spare.{view_next, view_count, view_capacity, no_room_lem, room_left}
use Rattle.plan.proofs.Fresh.{planned_fresh}
use Rattle.plan.proofs.Grows.{Grown, grows}

-- ---- the answers

-- the plan that fits: row 4 does not refuse, the nodes are the rules' nodes, and the application's conditions hold
pub record Fitted (mem path : List ℕ) (t : List PlannedNode) (node count : ℕ) : Type 0 where
  pub room : no_room (view mem) path ≡ false
  pub ends : node ≡ ended (view mem) path
  pub nodes : planned_from path (next_of mem) t 0 count ≡ (planned (view mem).tree path).nodes
  pub rows : count_of mem + count < capacity_of mem
  pub numbers : next_of mem + count ≤ 2 ^ 56
  pub named : Within path t count

module _ (mem path : List ℕ) (t : List PlannedNode) where
  says_fits : (q : Planned) → Plans mem path t (Ok q) → Fitted mem path t q.node q.count
  unfolding plan_told fitting
  says_fits q p = go (no_room (view mem) path) refl p.answer
    where
      go : (b : Bool) → no_room (view mem) path ≡ b → ◌≡◌ {A = Result Made VfsError} (Ok (record { nodes = planned_from path (next_of mem) t 0 q.count; here = q.node })) (cond b (Err NoRoom) (Ok (planned (view mem).tree path)))
          → Fitted mem path t q.node q.count
      go true e f = cc
      go false e f =
          let same : ◌≡◌ {A = Made} (record { nodes = planned_from path (next_of mem) t 0 q.count; here = q.node }) (planned (view mem).tree path) = cc in
          let size : length (planned (view mem).tree path).nodes ≡ q.count = sym (ap (λ (m : Made). length m.nodes) same) ∙ planned_length path (next_of mem) t q.count in
          let left = room_left mem path e in
          record {
            room = e;
            ends = ap (λ (m : Made). m.here) same;
            nodes = ap (λ (m : Made). m.nodes) same;
            rows = omega (arith, left.0);
            numbers = omega (arith, left.1);
            named = p.named;
          }

  says_none : (e : VfsError) → Plans mem path t (Err e) → (e ≡ NoRoom) × (no_room (view mem) path ≡ true)
  unfolding plan_told fitting
  says_none e p = go (no_room (view mem) path) p.answer
    where
      go : (b : Bool) → ◌≡◌ {A = Result Made VfsError} (Err e) (cond b (Err NoRoom) (Ok (planned (view mem).tree path))) → (e ≡ NoRoom) × (b ≡ true)
      go true f = (cc, refl)
      go false f = cc

  -- of an answer of the code, known by its variant
  pub fitted : {r : Result Planned VfsError} {q : Planned} → Plans mem path t r → r ≡ Ok q → Fitted mem path t q.node q.count
  fitted {r} {q} p e = says_fits q (subst (Plans mem path t) e p)

  pub refused : {r : Result Planned VfsError} {e : VfsError} → Plans mem path t r → r ≡ Err e → (e ≡ NoRoom) × (no_room (view mem) path ≡ true)
  refused {r} {e} p f = says_none e (subst (Plans mem path t) f p)

-- whatever the planned nodes are, two answers that tell the same are the same
pub told_injective : (path : List ℕ) (next : ℕ) (t u : List PlannedNode) (a b : Result Planned VfsError) → plan_told path next t a ≡ plan_told path next u b → a ≡ b
unfolding plan_told
told_injective path next t u (Ok p) (Ok q) e =
    let same : ◌≡◌ {A = Made} (record { nodes = planned_from path next t 0 p.count; here = p.node }) (record { nodes = planned_from path next u 0 q.count; here = q.node }) = cc in
    let size : p.count ≡ q.count = sym (planned_length path next t p.count) ∙ ap (λ (m : Made). length m.nodes) same ∙ planned_length path next u q.count in
    let place : p.node ≡ q.node = ap (λ (m : Made). m.here) same in
    λ i. Ok (record { node = place i; count = size i })
told_injective path next t u (Ok p) (Err f) e = cc
told_injective path next t u (Err d) (Ok q) e = cc
told_injective path next t u (Err d) (Err f) e = cc

-- ---- the walk finds the whole path

-- a mount walk that makes nothing has room (R67)
pub room_none : (mem path : List ℕ) (x : ℕ) → Bounds mem → planned (view mem).tree path ≡ record { nodes = []; here = x } → no_room (view mem) path ≡ false
unfolding needed
room_none mem path x d e =
    no_room_lem mem path d ∙ ap (λ (m : Made). not (leb (length m.nodes) (room_of mem))) e ∙ ap not (le-leb 0 (room_of mem) (omega arith))

-- ---- other bytes with the same tree and N

pub fitted_over : (mem after path : List ℕ) (t : List PlannedNode) (node count : ℕ) → (view after).tree ≡ (view mem).tree → (view after).fixed.capacity ≡ (view mem).fixed.capacity
    → Fitted mem path t node count → Fitted after path t node count
unfolding no_room
fitted_over mem after path t node count e c f =
    let next : next_of after ≡ next_of mem = sym (view_next after) ∙ ap (λ (x : Tree). x.next) e ∙ view_next mem in
    let rows : count_of after ≡ count_of mem = sym (view_count after) ∙ ap (λ (x : Tree). length x.nodes) e ∙ view_count mem in
    let size : capacity_of after ≡ capacity_of mem = sym (view_capacity after) ∙ c ∙ view_capacity mem in
    record {
      room = rw (e, c) f.room;
      ends = rw e f.ends;
      nodes = rw (e, next) f.nodes;
      rows = omega (arith, f.rows);
      numbers = omega (arith, f.numbers);
      named = f.named;
    }

-- ---- the application

-- the nodes made are live, and the layout rule is kept (R48)
pub walked : (mem path : List ℕ) → laid mem ≡ true → too_long path ≡ false → no_room (view mem) path ≡ false → Grown (planned (view mem).tree path).nodes mem
walked mem path l s r =
    let left = room_left mem path r in
    grows (planned (view mem).tree path).nodes mem l (planned_fresh mem path s left.1) left.0 left.1

pub view_walked : (mem path : List ℕ) → laid mem ≡ true → too_long path ≡ false → no_room (view mem) path ≡ false
    → view (append_all (planned (view mem).tree path).nodes mem) ≡ walked_to path (view mem)
view_walked mem path l s r = (walked mem path l s r).stands

pub keeps_walked : (mem path : List ℕ) → laid mem ≡ true → too_long path ≡ false → no_room (view mem) path ≡ false → laid (append_all (planned (view mem).tree path).nodes mem) ≡ true
keeps_walked mem path l s r = (walked mem path l s r).keeps
