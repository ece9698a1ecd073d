-- The loop over the records: to load the rest here gives what loading all gives. Assumes nothing.
use mathlib.Core.Path.{◌≡◌, refl, ◌∙◌}
use mathlib.Core.Bool.{true}
use mathlib.Core.List.{List}
use Prim.Native.Nat.{ℕ, suc, ◌+◌, ◌-◌, ◌≤◌, ◌<◌}
use native.Mathlib.Nat.{sub-zero}
use native.Mathlib.Omega.{arith}
use lib.ListN.{length}
use Rattle.rules.specs.Saved.{saved_node_at, saved_nodes_at, saved_records, state_of, accepted}
use Rattle.saved.specs.Scan.{start_of}
use Rattle.saved.proofs.Walk.{start_next}
use Rattle.tables.specs.Layout.{capacity_of, count_of}
use Rattle.tables.specs.Laid.{laid}
use Rattle.saved_restore.specs.Parts.{load_node, load_nodes}
use Rattle.saved_restore.proofs.Records.{record_loads}
use Rattle.saved_restore.proofs.Loads.{loads, loaded_capacity, loaded_count}

-- i records are loaded
pub record Loading (s₀ b s : List ℕ) (i : ℕ) : Type 0 where
  pub so_far : i ≤ saved_records b
  pub long : length s ≡ length s₀
  pub keeps : laid s ≡ true
  pub capacity : capacity_of s ≡ capacity_of s₀
  pub live : count_of s ≡ count_of s₀ + i
  pub rest : load_nodes (saved_nodes_at b (saved_records b - i) (start_of b i)) s ≡ load_nodes (state_of b).nodes s₀

module _ (s₀ b : List ℕ) where
  pub begins : laid s₀ ≡ true → Loading s₀ b s₀ 0
  unfolding start_of state_of
  begins k = record {
    so_far = omega arith;
    long = refl;
    keeps = k;
    capacity = refl;
    live = omega arith;
    rest = rw sub-zero;
  }

  module _ (s : List ℕ) (i : ℕ) (w : Loading s₀ b s i) where
    pub loaded : saved_records b ≤ i → s ≡ load_nodes (state_of b).nodes s₀
    unfolding load_nodes saved_nodes_at
    loaded h = let z : saved_records b - i ≡ 0 = omega arith in rw z at w.rest

    pub goes_on : accepted b ≡ true → count_of s₀ + saved_records b < capacity_of s₀ → i < saved_records b → (at : ℕ) → at ≡ start_of b i → (r : List ℕ) → r ≡ load_node (saved_node_at b at) s
        → Loading s₀ b r (i + 1)
    unfolding load_nodes saved_nodes_at
    goes_on a room h at here r e =
        let one = loads (saved_node_at b at) s w.keeps (record_loads b a i at here h) (omega (arith, w.capacity, w.live)) in
        let left : saved_records b - i ≡ suc (saved_records b - (i + 1)) = omega arith in
        rw e
        (record {
          so_far = omega arith;
          long = one.long ∙ w.long;
          keeps = one.keeps;
          capacity = loaded_capacity (saved_node_at b at) s one ∙ w.capacity;
          live = omega (arith, loaded_count (saved_node_at b at) s one, w.live);
          rest = rw (here, ← start_next b i (start_of b i) refl) (rw left at w.rest);
        })
