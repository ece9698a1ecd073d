-- What the tests of a state restore say, and what one record writes. Assumes nothing.
use mathlib.Core.Path.{◌≡◌, refl, sym, ap, ◌∙◌}
use mathlib.Core.Bool.{Bool, true, false}
use Rattle.std.specs.Prelude.{Option, Some, None, is_some, not}
use mathlib.Core.Logic.{⊎_elim}
use mathlib.Core.List.{List, [], ◌∷◌}
use Prim.Native.Nat.{ℕ, ◌+◌, ◌≤◌, ◌<◌}
use native.Mathlib.Omega.{arith}
use lib.ListN.{length}
use lib.Dec.{leb, ltb}
use borrow.Author.Tests.{le-leb, lt-leb, lt-ltb, le-ltb}
use Rattle.le.specs.Mem.{get, put}
use Rattle.rules.specs.Tree.{Node, is_none}
use Rattle.rules.specs.Create.{unknown}
use Rattle.rules.specs.Saved.{saved_node_at, saved_options_at, options_start, saved_records, saved_next, saved_counter, state_of}
use Rattle.rules.specs.StateRestore.{no_nodes, fresh}
use Rattle.rules.proofs.Tests.{le_or_lt}
use Rattle.vfs_options.specs.declared.VfsOptions.{VfsOptions}
use Rattle.vfs_options.specs.Given.{options_in}
use Rattle.tables.specs.Table.{row}
use Rattle.tables.specs.Layout.{capacity_of, count_of}
use Rattle.tables.specs.View.{nodes_of, view}
use Rattle.tables.specs.Laid.{laid}
use Rattle.tables.specs.Write.{set_next, append_node}
use Rattle.tables.specs.Answer.{mount_in}
use Rattle.tables.specs.declared.mounts.MountPoint.{MountPoint}
use Rattle.tables.proofs.Writes.{put_next}
use Rattle.tables.proofs.RowOf.{nodes_count}
use Rattle.saved_restore.specs.Parts.{Loads, load_node, load_nodes, set_state, state_mem}
use Rattle.saved_restore.proofs.Records.{count_is}
use Rattle.saved_restore.proofs.Loads.{Ready, ready}

-- ---- fresh

some_nodes : (ns : List Node) → 0 < length ns → no_nodes ns ≡ false
unfolding no_nodes
some_nodes [] h = absurd (omega arith)
some_nodes (n ∷ ns) h = refl

none_there : (ns : List Node) → length ns ≤ 0 → no_nodes ns ≡ true
unfolding no_nodes
none_there [] h = refl
none_there (n ∷ ns) h = absurd (omega arith)

bare : (r : Option MountPoint) (x : Bool) → is_some r ≡ not x → x ≡ is_none (mount_in r)
bare None true e = refl
bare None false e = e
bare (Some m) true e = e
bare (Some m) false e = refl

module _ (mem : List ℕ) where
  pub has_nodes : (count_of mem ≡ 0 → ⊥) → false ≡ fresh (view mem)
  unfolding fresh view
  has_nodes h = rw (some_nodes (nodes_of mem) (omega (arith, nodes_count mem)))

  pub root_decides : count_of mem ≡ 0 → (r : Option MountPoint) (x : Bool) → mount_in r ≡ (view mem).tree.root → is_some r ≡ not x → x ≡ fresh (view mem)
  unfolding fresh view
  root_decides e r x is f = rw (none_there (nodes_of mem) (omega (arith, nodes_count mem))) (bare r x f ∙ ap is_none is)

-- ---- the mask, and room

pub bits_by : (mem b : List ℕ) (known : ℕ) (o : VfsOptions) (r : Bool) → known ≡ get 8 mem 32 → options_in o ≡ saved_options_at b (options_start b)
    → r ≡ unknown known (options_in o) → r ≡ unknown (view mem).fixed.known (state_of b).options
unfolding view row get state_of
bits_by mem b known o r k m e = e ∙ (λ t. unknown (k t) (m t))

no_less : (n k : ℕ) → leb n k ≡ ltb n (1 + k)
no_less n k = ⊎_elim (λ (h : n ≤ k). le-leb n k h ∙ sym (lt-ltb n (1 + k) (omega arith))) (λ (h : k < n). lt-leb n k h ∙ sym (le-ltb n (1 + k) (omega arith))) (le_or_lt n k)

pub many_by : (mem b : List ℕ) (n k : ℕ) → n ≡ capacity_of mem → k ≡ saved_records b → leb n k ≡ ltb (view mem).fixed.capacity (1 + length (state_of b).nodes)
unfolding view row get
many_by mem b n k e f = no_less n k ∙ (λ t. ltb (e t) (1 + (f ∙ sym (count_is b)) t))

-- ---- one record

module _ (mem b : List ℕ) (at x : ℕ) (m' : List ℕ) (i : x ≡ (saved_node_at b at).number) (p : m' ≡ put 8 mem 24 x) where
  set_is : m' ≡ set_next (saved_node_at b at).number mem
  set_is = p ∙ put_next mem x ∙ ap (λ (y : ℕ). set_next y mem) i

  pub set_ready : laid mem ≡ true → count_of mem + 1 < capacity_of mem → Loads (saved_node_at b at) → Ready m'
  set_ready k room f = rw set_is (ready (saved_node_at b at) mem k f room)

  pub record_put : (parent : ℕ) (name : List ℕ) (after : List ℕ) → parent ≡ (saved_node_at b at).parent → name ≡ (saved_node_at b at).name
      → after ≡ append_node parent name m' → after ≡ load_node (saved_node_at b at) mem
  unfolding load_node
  record_put parent name after a n h = h ∙ (λ t. append_node (a t) (n t) (set_is t))

-- ---- all of it

pub saved_put : (mem b : List ℕ) (next counter : ℕ) (o : VfsOptions) (m' after : List ℕ) → next ≡ saved_next b → counter ≡ saved_counter b → options_in o ≡ saved_options_at b (options_start b)
    → m' ≡ load_nodes (state_of b).nodes mem → after ≡ set_state next counter (options_in o) m' → after ≡ state_mem (state_of b) mem
unfolding state_mem state_of
saved_put mem b next counter o m' after n k p l h = h ∙ (λ t. set_state (n t) (k t) (p t) (l t))
