-- What each way through a state restore gives. Assumes nothing.
use mathlib.Core.Path.{◌≡◌, refl, sym, ap, ◌∙◌}
use mathlib.Core.Bool.{Bool, true, false, not}
use mathlib.Core.List.{List, ◌++◌}
use Rattle.std.specs.Prelude.{Ok, Err}
use Prim.Native.Nat.{ℕ, ◌+◌, ◌≤◌, ◌<◌}
use native.Mathlib.Omega.{arith}
use lib.ListN.{length}
use lib.Dec.{eqb, ltb}
use borrow.Author.Tests.{not-true, not-false, ne_eqb, ltb-false}
use Rattle.le.specs.Mem.{get}
use Rattle.rules.specs.Bytes.{Bytes}
use Rattle.rules.specs.Numbers.{DONE}
use Rattle.rules.specs.Codes.{code_of}
use Rattle.rules.specs.declared.codes.VfsError.{VfsError}
use Rattle.rules.specs.declared.codes.VfsError.TheVariants.{NotFresh, BadSave, BadOpt, NoRoom, Small}
use Rattle.rules.specs.Tree.{Node}
use Rattle.rules.specs.Instance.{Instance}
use Rattle.rules.specs.Outcome.{nothing, Outcome, refused, says, first_of}
use Rattle.rules.specs.Create.{unknown}
use Rattle.rules.specs.Saved.{State, tail_length, saved_records, state_of, accepted}
use Rattle.rules.specs.StateRestore.{nodes_of_records, fresh, state_restored_to, restore_state_rule}
use Rattle.rules.proofs.Accepted.{fits}
use Rattle.rules.proofs.Driven.{fresh_bare}
use Rattle.tables.specs.Table.{row}
use Rattle.tables.specs.Layout.{capacity_of, count_of}
use Rattle.tables.specs.View.{view}
use Rattle.tables.specs.Laid.{laid}
use Rattle.call_form.proofs.Apart.{refused_some}
use Rattle.tables.proofs.Keeps.{laid_long}
use Rattle.tables.proofs.RowOf.{nodes_count}
use Rattle.storage.proofs.Calls.{does_small, does_nothing, does}
use Rattle.saved.proofs.Accepted.{accepted_long}
use Rattle.saved_restore.specs.Parts.{load_nodes, state_mem}
use Rattle.persist.specs.StateRestoring.{state_restored_told, restore_state_mem, restoring_state, RestoresState}
use Rattle.saved_restore.proofs.Records.{count_is, next_low, next_top, all_load}
use Rattle.saved_restore.proofs.Loads.{AllLoaded, loads_all}
use Rattle.saved_restore.proofs.StateHead.{become, view_state, state_keeps}

-- a fresh instance has no row
none_live : (mem : List ℕ) → fresh (view mem) ≡ true → count_of mem ≡ 0
unfolding view
none_live mem f = sym (nodes_count mem) ∙ ap (λ (ns : List Node). length ns) (fresh_bare (view mem) f).0

-- ---- the state is there

module _ (mem b : List ℕ) (k : laid mem ≡ true) (f : fresh (view mem) ≡ true) (a : accepted b ≡ true) (mask : unknown (view mem).fixed.known (state_of b).options ≡ false)
    (fit : ltb (view mem).fixed.capacity (1 + length (state_of b).nodes) ≡ false) where
  pub room : count_of mem + saved_records b < capacity_of mem
  unfolding view row get
  room = omega (arith, none_live mem f, count_is b, ltb-false (capacity_of mem) (1 + length (state_of b).nodes) fit)

  module _ (bytes : Bytes b) where
    abbrev s : State
    s = state_of b

    abbrev m' : List ℕ
    m' = load_nodes s.nodes mem

    all : AllLoaded s.nodes mem
    all = loads_all s.nodes mem k (all_load b a) (omega (arith, room, count_is b))

    view_restored : view (state_mem s mem) ≡ state_restored_to s (view mem)
    unfolding state_mem state_restored_to
    view_restored =
        let w = fits b bytes a in
        let bare = fresh_bare (view mem) f in
        view_state s.next s.counter s.options m' w.options (next_top b a) w.counter (omega (arith, all.long, laid_long mem k))
        ∙ ap (become s.next s.counter s.options) (all.stands 0)
        ∙ (λ t. become s.next s.counter s.options (record {
          fixed = (view mem).fixed;
          removal = (view mem).removal;
          initialized = (view mem).initialized;
          options = (view mem).options;
          indexes = (view mem).indexes;
          tree = record { next = 0; root = bare.1 t; nodes = bare.0 t ++ nodes_of_records s.nodes };
        }))

    keeps_restored : laid (state_mem s mem) ≡ true
    unfolding state_mem
    keeps_restored =
        let w = fits b bytes a in
        let known : (view m').fixed.known ≡ (view mem).fixed.known = ap (λ (i : Instance). i.fixed.known) (all.stands 0) in
        state_keeps s.next s.counter s.options m' w.options (next_top b a) w.counter all.keeps (next_low b a) (rw known mask)

-- ---- the call

module _ (b : List ℕ) (a : Bool) (ae : a ≡ accepted b) (e : not a ≡ false) where
  pub accepted_by : accepted b ≡ true
  accepted_by = sym ae ∙ not-false a e

  pub long_by : tail_length ≤ length b
  long_by = accepted_long b accepted_by

pub bytes_by : (mem : List ℕ) → laid mem ≡ true → 8192 ≤ length mem
bytes_by mem k = laid_long mem k

module _ (mem b : List ℕ) where
  -- bytes against the layout rule
  pub small : laid mem ≡ false → RestoresState mem b (Err Small) mem
  unfolding restore_state_mem
  small f = does_small mem (restoring_state b) (state_restored_told (Err Small)) (restore_state_mem b mem) f refl (rw f)

  module _ (k : laid mem ≡ true) where
    refusal : (x : VfsError) → restoring_state b (view mem) ≡ refused (code_of x) (view mem) → RestoresState mem b (Err x) mem
    unfolding restore_state_mem
    refusal x f =
        let z : eqb (restore_state_rule (view mem) b).code DONE ≡ false = ap (λ (o : Outcome). eqb o.code DONE) f ∙ ne_eqb (code_of x) DONE (refused_some x) in
        does_nothing mem (restoring_state b) (state_restored_told (Err x)) (restore_state_mem b mem) (refused (code_of x) (view mem)) k f refl refl (rw (k, z))

    module _ (fr : Bool) (fe : fr ≡ fresh (view mem)) where
      pub not_fresh : not fr ≡ true → RestoresState mem b (Err NotFresh) mem
      unfolding restore_state_rule first_of
      not_fresh e = let z : fresh (view mem) ≡ false = sym fe ∙ not-true fr e in refusal NotFresh (rw z)

      module _ (is : not fr ≡ false) (a : Bool) (ae : a ≡ accepted b) where
        new : fresh (view mem) ≡ true
        new = sym fe ∙ not-false fr is

        pub bad_save : not a ≡ true → RestoresState mem b (Err BadSave) mem
        unfolding restore_state_rule first_of
        bad_save e = let z : accepted b ≡ false = sym ae ∙ not-true a e in refusal BadSave (rw (new, z))

        module _ (good : not a ≡ false) (u : Bool) (ue : u ≡ unknown (view mem).fixed.known (state_of b).options) where
          ok : accepted b ≡ true
          ok = accepted_by b a ae good

          pub bad_opt : u ≡ true → RestoresState mem b (Err BadOpt) mem
          unfolding restore_state_rule first_of
          bad_opt e = let z : unknown (view mem).fixed.known (state_of b).options ≡ true = sym ue ∙ e in refusal BadOpt (rw (new, ok, z))

          module _ (in-mask : u ≡ false) (m : Bool) (me : m ≡ ltb (view mem).fixed.capacity (1 + length (state_of b).nodes)) where
            mask : unknown (view mem).fixed.known (state_of b).options ≡ false
            mask = sym ue ∙ in-mask

            pub no_room_lem : m ≡ true → RestoresState mem b (Err NoRoom) mem
            unfolding restore_state_rule first_of
            no_room_lem e = let z : ltb (view mem).fixed.capacity (1 + length (state_of b).nodes) ≡ true = sym me ∙ e in refusal NoRoom (rw (new, ok, mask, z))

            pub fits_by : m ≡ false → count_of mem + saved_records b < capacity_of mem
            fits_by e = room mem b k new ok mask (sym me ∙ e)

            pub restores : m ≡ false → Bytes b → (after : List ℕ) → after ≡ state_mem (state_of b) mem → RestoresState mem b (Ok tt) after
            unfolding restore_state_rule first_of restore_state_mem
            restores e bytes after p =
                let fit : ltb (view mem).fixed.capacity (1 + length (state_of b).nodes) ≡ false = sym me ∙ e in
                does mem (restoring_state b) (state_restored_told (Ok tt)) after (restore_state_mem b mem) (says nothing (state_restored_to (state_of b) (view mem))) k (rw (new, ok, mask, fit)) refl (p ∙ sym (rw (k, new, ok, mask, fit)))
                (ap view p ∙ view_restored mem b k new ok mask fit bytes) (ap laid p ∙ keeps_restored mem b k new ok mask fit bytes)
