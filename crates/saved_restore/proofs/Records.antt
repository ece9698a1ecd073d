-- What accepted bytes say of each record and of the rest of the state: all that the storage needs. Assumes nothing.
use mathlib.Core.Path.{◌≡◌, subst}
use mathlib.Core.Bool.{true}
use mathlib.Core.List.{List, [], ◌∷◌}
use Prim.Native.Nat.{ℕ, zero, suc, ◌+◌, ◌^◌, ◌≤◌, ◌<◌}
use native.Mathlib.Nat.{add-zero, zero-add}
use native.Mathlib.Omega.{arith}
use lib.ListN.{length}
use Rattle.rules.specs.Saved.{SavedNode, saved_node_at, saved_nodes_at, saved_records, state_of, accepted}
use Rattle.rules.specs.claims.Driven.{Rises, Below, Named}
use Rattle.rules.proofs.Accepted.{nodes_count, clauses}
use Rattle.rules.proofs.Shape.{rises_end}
use Rattle.rules.proofs.Good.{valid_shape}
use Rattle.rules.proofs.SaveThenRestore.{name_length_lem}
use Rattle.saved.specs.Scan.{start_of}
use Rattle.saved_restore.specs.Parts.{Loads}

-- ---- records

unfoldable pub AllLoad : List SavedNode → Type 0
AllLoad [] = Unit {0}
AllLoad (e ∷ es) = Loads e × AllLoad es

shape_loads : (low next : ℕ) (es : List SavedNode) → 2 ≤ low → next ≤ 2 ^ 56 → Rises low es next → Below es → Named es → AllLoad es
unfolding Rises Below Named AllLoad
shape_loads low next [] l t r b n = tt
shape_loads low next (e ∷ es) l t r b n =
    let h = rises_end (e.number + 1) next es r.1 in (
      record { low = omega (arith, r.0); top = omega arith; parent = omega (arith, b.1); short = name_length_lem e.name n.0 },
      shape_loads (e.number + 1) next es (omega (arith, r.0)) t r.1 b.2 n.1,
    )

-- record i, where those from record j on are known
load_at : (b : List ℕ) (k i j : ℕ) → AllLoad (saved_nodes_at b k (start_of b j)) → i < k → Loads (saved_node_at b (start_of b (j + i)))
unfolding AllLoad saved_nodes_at start_of
load_at b zero i j a h = absurd (omega arith)
load_at b (suc k) zero j a h = rw add-zero a.0
load_at b (suc k) (suc i) j a h =
    let e : suc j + i ≡ j + suc i = omega arith in
    subst (λ (x : ℕ). Loads (saved_node_at b (start_of b x))) e (load_at b k i (suc j) a.1 (omega arith))

pub count_is : (b : List ℕ) → length (state_of b).nodes ≡ saved_records b
unfolding state_of
count_is b = nodes_count b (saved_records b) 0

-- ---- of accepted bytes

module _ (b : List ℕ) (a : accepted b ≡ true) where
  pub next_low : 2 ≤ (state_of b).next
  next_low = (valid_shape (state_of b) (clauses b a).1).0

  pub next_top : (state_of b).next ≤ 2 ^ 56
  next_top = (valid_shape (state_of b) (clauses b a).1).1

  pub all_load : AllLoad (state_of b).nodes
  all_load =
      let s = (valid_shape (state_of b) (clauses b a).1).2 in
      shape_loads 2 (state_of b).next (state_of b).nodes (omega arith) next_top s.rises s.below s.named

  pub record_loads : (i at : ℕ) → at ≡ start_of b i → i < saved_records b → Loads (saved_node_at b at)
  unfolding state_of start_of
  record_loads i at e h =
      let z : 0 + i ≡ i = zero-add i in
      rw (e, ← z) (load_at b (saved_records b) i 0 all_load h)
