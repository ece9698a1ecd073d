-- Creation and state restore, on bytes with a rest behind them (R23). Assumes nothing.
use mathlib.Core.Path.{◌≡◌, refl, ap, ◌∙◌}
use mathlib.Core.Bool.{Bool, true, false, cond, not}
use mathlib.Core.List.{List, [], ◌∷◌, ◌++◌}
use Prim.Native.Nat.{ℕ, ◌+◌, ◌≤◌, ◌<◌}
use native.Mathlib.Omega.{arith}
use lib.ListN.{length, replicate, length-replicate}
use lib.Dec.{eqb, ltb}
use Rattle.le.specs.Mem.{write, bytes_of}
use Rattle.le.proofs.Lens.{length-write}
use Rattle.le.proofs.Writes.{write_before}
use Rattle.rules.specs.Numbers.{DONE, BADSAVE, BADOPT, NOROOM, NOTFRESH, storage_for}
use Rattle.rules.specs.Instance.{Instance, Options}
use Rattle.rules.specs.Outcome.{nothing, refused, says, ◌⟹◌, first_of}
use Rattle.rules.specs.Create.{Creation, new_instance, unknown}
use Rattle.rules.specs.Saved.{SavedNode, State, state_of, accepted}
use Rattle.rules.specs.StateRestore.{fresh, state_restored_to, restore_state_rule}
use Rattle.rules.proofs.Fields.{length_bytes_of}
use Rattle.tables.proofs.Table.{Fit}
use Rattle.tables.specs.Layout.{table_at, occupancy_at, tags_at, header, capacity_of, count_of, counter_field, mark_field}
use Rattle.tables.specs.View.{view}
use Rattle.tables.specs.Laid.{laid}
use Rattle.tables.specs.Write.{from_place, put_header, set_next, yes_byte, append_node}
use Rattle.tables.proofs.Table.{length_put_row}
use Rattle.tables.proofs.Keeps.{laid_is, laid_long}
use Rattle.storage.specs.Header.{spell, header_of}
use Rattle.storage.proofs.Header.{spell_fits}
use Rattle.storage.specs.Creation.{empty_slots, create_mem}
use Rattle.saved_restore.specs.Parts.{Loads, load_node, load_nodes, has_bits, option_cells, set_options, set_state, state_mem}
use Rattle.saved_restore.proofs.Records.{AllLoad, count_is, all_load}
use Rattle.saved_restore.proofs.Loads.{loads, loads_all, loaded_capacity, loaded_count, next_keeps}
use Rattle.persist.specs.StateRestoring.{restore_state_mem}
use Rattle.persist.proofs.StateWays.{room}
use Rattle.behind.specs.Behind.{LeavesRest}
use Rattle.behind.proofs.Front.{header_front, view_front, laid_front, append_front}

module _ (rest : List ℕ) where
  -- ---- the records

  next_front : (mem : List ℕ) → table_at ≤ length mem → (x : ℕ) → LeavesRest (set_next x) mem rest
  unfolding set_next
  next_front mem l x = header_front rest mem l 3 (bytes_of 8 x ∷ []) (omega (arith, length_bytes_of 8 x))

  load_front : (e : SavedNode) (mem : List ℕ) → laid mem ≡ true → Loads e → LeavesRest (load_node e) mem rest
  unfolding load_node
  load_front e mem k f =
      let m' = set_next e.number mem in
      ap (append_node e.parent e.name) (next_front mem (laid_long mem k) e.number)
      ∙ append_front rest m' (laid_is m' (next_keeps mem (laid_is mem k) e.number (omega (arith, f.top)) f.low k)) e.parent e.name f.short

  loads_front : (es : List SavedNode) (mem : List ℕ) → laid mem ≡ true → AllLoad es → count_of mem + length es < capacity_of mem → LeavesRest (load_nodes es) mem rest
  unfolding load_nodes AllLoad
  loads_front [] mem k f room = refl
  loads_front (e ∷ es) mem k f room =
      let one = loads e mem k f.0 (omega arith) in
      ap (load_nodes es) (load_front e mem k f.0)
      ∙ loads_front es (load_node e mem) one.keeps f.1 (omega (arith, loaded_capacity e mem one, loaded_count e mem one))

  -- ---- the header

  options_fit : (o : Options) → Fit header (from_place 5 (option_cells o))
  options_fit o =
      omega (arith, length_bytes_of 8 o.in_opts, length_bytes_of 8 o.out_opts, length_bytes_of 4 o.mapping.internal, length_bytes_of 4 o.mapping.external, length_bytes_of 4 o.mapping.range, length_bytes_of 1 o.flags)

  state_front : (next counter : ℕ) (o : Options) (mem : List ℕ) → table_at ≤ length mem → LeavesRest (set_state next counter o) mem rest
  unfolding set_state set_options set_next put_header
  state_front next counter o mem l =
      let cells : List (List ℕ) = bytes_of 1 counter ∷ [] ∷ bytes_of 1 (yes_byte (has_bits o.in_opts)) ∷ [] in
      let m₁ = set_next next mem in
      let s₁ : length m₁ ≡ length mem = length_put_row header (from_place 3 (bytes_of 8 next ∷ [])) mem 0 in
      let m₂ = set_options o m₁ in
      let s₂ : length m₂ ≡ length m₁ = length_put_row header (from_place 5 (option_cells o)) m₁ 0 in
      ap (λ (m : List ℕ). put_header counter_field cells (set_options o m)) (next_front mem l next)
      ∙ ap (put_header counter_field cells) (header_front rest m₁ (omega arith) 5 (option_cells o) (options_fit o))
      ∙ header_front rest m₂ (omega arith) 14 cells (omega (arith, length_bytes_of 1 counter, length_bytes_of 1 (yes_byte (has_bits o.in_opts))))

  -- ---- state restore

  module _ (saved mem : List ℕ) (k : laid mem ≡ true) where
    whole_front : fresh (view mem) ≡ true → accepted saved ≡ true → unknown (view mem).fixed.known (state_of saved).options ≡ false → ltb (view mem).fixed.capacity (1 + length (state_of saved).nodes) ≡ false
        → LeavesRest (state_mem (state_of saved)) mem rest
    unfolding state_mem
    whole_front f a u t =
        let s : State = state_of saved in
        let all : AllLoad s.nodes = all_load saved a in
        let fit : count_of mem + length s.nodes < capacity_of mem = omega (arith, room mem saved k f a u t, count_is saved) in
        ap (set_state s.next s.counter s.options) (loads_front s.nodes mem k all fit)
        ∙ state_front s.next s.counter s.options (load_nodes s.nodes mem) (omega (arith, (loads_all s.nodes mem k all fit).long, laid_long mem k))

    -- whether all four tests are passed
    done : Bool → Bool → Bool → Bool → Bool
    unfolding first_of
    done f a u t =
        eqb
        (first_of
        ((not f ⟹ refused NOTFRESH (view mem)) ∷ (not a ⟹ refused BADSAVE (view mem)) ∷ (u ⟹ refused BADOPT (view mem)) ∷ (t ⟹ refused NOROOM (view mem)) ∷ [])
        (says nothing (state_restored_to (state_of saved) (view mem)))).code
        DONE

    pub restored_front : LeavesRest (restore_state_mem saved) mem rest
    unfolding restore_state_mem restore_state_rule first_of done
    restored_front =
        rw (laid_front rest mem k, k)
        (ap (λ (i : Instance). cond (eqb (restore_state_rule i saved).code DONE) (state_mem (state_of saved) (mem ++ rest)) (mem ++ rest)) (view_front rest mem (laid_is mem k))
        ∙ go (fresh (view mem)) refl (accepted saved) refl (unknown (view mem).fixed.known (state_of saved).options) refl (ltb (view mem).fixed.capacity (1 + length (state_of saved).nodes)) refl)
      where
        go : (f : Bool) → fresh (view mem) ≡ f → (a : Bool) → accepted saved ≡ a → (u : Bool) → unknown (view mem).fixed.known (state_of saved).options ≡ u → (t : Bool) → ltb (view mem).fixed.capacity (1 + length (state_of saved).nodes) ≡ t
            → cond (done f a u t) (state_mem (state_of saved) (mem ++ rest)) (mem ++ rest) ≡ cond (done f a u t) (state_mem (state_of saved) mem) mem ++ rest
        go false f a x u y t z = refl
        go true f false x u y t z = refl
        go true f true x true y t z = refl
        go true f true x false y true z = refl
        go true f true x false y false z = whole_front f x y z

  -- ---- creation

  pub create_front : (q : Creation) (mem : List ℕ) → storage_for q.capacity ≤ length mem → LeavesRest (create_mem q) mem rest
  unfolding create_mem empty_slots
  create_front q mem l =
      let cells = spell header (header_of (new_instance q)) in
      let s₁ = length-write mem 256 (replicate 256 0) in
      let m₁ = write mem 256 (replicate 256 0) in
      let s₂ = length-write m₁ tags_at (replicate 1024 0) in
      let a = length-replicate {A = ℕ} 256 0 in
      let b = length-replicate {A = ℕ} 1024 0 in
      ap (λ (m : List ℕ). put_header mark_field cells (write m tags_at (replicate 1024 0))) (write_before mem rest occupancy_at (replicate 256 0) (omega arith))
      ∙ ap (put_header mark_field cells) (write_before m₁ rest tags_at (replicate 1024 0) (omega arith))
      ∙ header_front rest (write m₁ tags_at (replicate 1024 0)) (omega arith) 0 cells (spell_fits header (header_of (new_instance q)))
