-- What holds of every driven instance. Assumes nothing.
use mathlib.Core.Path.{◌≡◌, refl, sym, ap, ◌∙◌, subst}
use mathlib.Core.Bool.{true, false, true≢false, false≢true}
use mathlib.Core.Logic.{◌⊎◌, ⊎_elim}
use mathlib.Core.List.{List, [], ◌∷◌}
use Rattle.std.specs.Prelude.{Option, None, Some}
use Prim.Native.Nat.{ℕ, ◌+◌, ◌^◌, ◌≤◌, ◌<◌}
use native.Mathlib.Omega.{arith}
use lib.Bits.{bit_and, and_le_r}
use lib.ListN.{length, get_or, replicate, length-replicate, get_or-replicate, get_or-eq_default}
use borrow.Author.Tests.{ltb-false, eqb-true, not-false}
use Rattle.rules.specs.Numbers.{DONE}
use Rattle.rules.specs.Bytes.{Bytes}
use Rattle.rules.specs.Ids.{bad_mapping}
use Rattle.rules.specs.Tree.{Mount, Node, is_none}
use Rattle.rules.specs.Instance.{Slot, Instance, empty_slot, held_in}
use Rattle.rules.specs.Outcome.{Outcome}
use Rattle.rules.specs.Mount.{allocation}
use Rattle.rules.specs.Create.{Creation, outside, unknown, bad_options, too_small, new_instance, create_rule}
use Rattle.rules.specs.Saved.{state_of}
use Rattle.rules.specs.StateRestore.{saved_nodes, nodes_of_records, no_nodes, fresh, state_restored_to}
use Rattle.rules.specs.Calls.{Call, rule}
use Rattle.rules.specs.claims.Driven.{Typed, creation, call, Rises, Below, Named, Unique, Shape, IsAt, MountIn, Mounted, Facts, EveryDriven, EveryReached}
use Rattle.rules.proofs.Tests.{le_or_lt, and_both, or_neither}
use Rattle.rules.proofs.Rows.{first_of_lem}
use Rattle.rules.proofs.Ids.{within}
use Rattle.rules.proofs.Leads.{path_rooted}
use Rattle.rules.proofs.Ways.{Restorable, every_call}
use Rattle.rules.proofs.Accepted.{clauses, fits}
use Rattle.rules.proofs.Shape.{saved_from, saved_length}
use Rattle.rules.proofs.Create.{large_enough, options_known}
use Rattle.rules.proofs.Good.{valid_shape}
use Rattle.rules.proofs.MountFacts.{Keeps, mount_as, restored_as, unmounted}

-- ---- state restore

no_nodes_lem : (ns : List Node) → no_nodes ns ≡ true → ns ≡ []
unfolding no_nodes
no_nodes_lem [] e = refl
no_nodes_lem (n ∷ ns) e = absurd (false≢true e)

no_root : (m : Option Mount) → is_none m ≡ true → m ≡ None
no_root None e = refl
no_root (Some m) e = absurd (false≢true e)

-- a fresh instance has no node besides the root, and no mount on that
pub fresh_bare : (i : Instance) → fresh i ≡ true → (i.tree.nodes ≡ []) × (i.tree.root ≡ None)
unfolding fresh
fresh_bare i e =
    let b = and_both (no_nodes i.tree.nodes) (is_none i.tree.root) e in
    (no_nodes_lem i.tree.nodes b.0, no_root i.tree.root b.1)

-- and so it holds no slot
pub none_held : (i : Instance) → Facts i → fresh i ≡ true → (k : ℕ) → held_in i k ≡ true → ⊥
unfolding MountIn
none_held i f e k h =
    let b = fresh_bare i e in
    let m : Mounted k i.tree = f.mounts.held k h in
    let n : IsAt k None ⊎ MountIn k [] = rw (b.0, b.1) at m in
    ⊎_elim (λ w. w) (λ w. w) n

module _ (i : Instance) (b : List ℕ) (f : Facts i) (bytes : Bytes b) (ok : Restorable i b) where
  state_facts : Facts (state_restored_to (state_of b) i)
  unfolding state_restored_to
  state_facts =
      let s = state_of b in
      let v = valid_shape s (clauses b ok.is_accepted).1 in
      let w = fits b bytes ok.is_accepted in
      let shape : Shape (saved_nodes (nodes_of_records s.nodes)) s.next = rw (saved_from s.nodes) v.2 in
      let size : length (nodes_of_records s.nodes) ≡ length s.nodes = sym (saved_length (nodes_of_records s.nodes)) ∙ ap length (saved_from s.nodes) in
      record {
        tree = record { shape = shape; top = v.1; room = omega (arith, size, ltb-false i.fixed.capacity (1 + length s.nodes) ok.room) };
        mounts = record { slots = f.mounts.slots; counter = w.counter; held = λ k h. absurd (none_held i f ok.is_fresh k h) };
        settings = record {
          capacity = f.settings.capacity;
          mask = f.settings.mask;
          mapping = f.settings.mapping;
          within = ok.options;
          options = w.options;
        };
      }

-- ---- every call, and creation

call_facts : (i : Instance) (c : Call) → Typed c → Facts i → Keeps (rule i c)
call_facts = every_call (λ (i : Instance) (c : Call) (o : Outcome). Typed c → Facts i → Keeps o) (record {
  still = λ i c o m s t f. subst Facts (sym s.after) f;
  early = λ i c code e t f. f;
  mounts = λ i r p t f. mount_as i r f p (allocation i).found;
  restores_mount = λ i k r p on t f. restored_as i r f p on k;
  unmounted = λ i path x m q e t f. unmounted i x m e f;
  sets_removal = λ i t f. record { tree = f.tree; mounts = f.mounts; settings = f.settings };
  state_restored = λ i b ok t f. state_facts i b f (t b refl) ok;
})

within_mask : (known bits : ℕ) → outside known bits ≡ false → bits ≤ known
unfolding outside
within_mask known bits e =
    let q = eqb-true (bit_and bits known) bits (not-false _ e) in
    subst (λ (n : ℕ). n ≤ known) q (and_le_r bits known)

new_not_held : (k : ℕ) → (get_or (replicate 256 empty_slot) k empty_slot).held ≡ false
new_not_held k =
    ⊎_elim (λ (l : 256 ≤ k). ap (λ (s : Slot). s.held) (get_or-eq_default (replicate 256 empty_slot) empty_slot {n = k} (rw (length-replicate 256 empty_slot) l)))
    (λ (l : k < 256). ap (λ (s : Slot). s.held) (get_or-replicate 256 k empty_slot empty_slot l)) (le_or_lt 256 k)

module _ (bytes : ℕ) (q : Creation) (mask : q.known < 2 ^ 64) (size : too_small bytes q.capacity ≡ false) (known : bad_options q.known q.options ≡ false)
    (maps : bad_mapping q.options.mapping ≡ false) where
  new_facts : Facts (new_instance q)
  unfolding new_instance unknown saved_nodes Rises Below Named Unique
  new_facts =
      let n = q.capacity in
      let o = q.options in
      let a = large_enough bytes n size in
      let d = options_known q.known o known in
      let e = or_neither (outside q.known o.in_opts) (outside q.known o.out_opts) d.0 in
      let w = within o.mapping maps in
      record {
        tree = record { shape = record { rises = omega arith; below = tt; named = tt; unique = tt }; top = omega arith; room = a.0 };
        mounts = record { slots = length-replicate 256 empty_slot; counter = omega arith; held = λ k h. absurd (true≢false (sym h ∙ new_not_held k)) };
        settings = record {
          capacity = a.1;
          mask = mask;
          mapping = maps;
          within = d.0;
          options = record {
            in_opts = omega (arith, within_mask q.known o.in_opts e.0);
            out_opts = omega (arith, within_mask q.known o.out_opts e.1);
            internal = omega (arith, w.low);
            external = omega (arith, w.high);
            range = omega (arith, w.low);
            flags = omega (arith, d.1);
          };
        };
      }

created_facts : (bytes : ℕ) (q : Creation) → q.known < 2 ^ 64 → create_rule bytes q ≡ DONE → Facts (new_instance q)
unfolding create_rule
created_facts bytes q m =
    first_of_lem (λ (code : ℕ). code ≡ DONE → Facts (new_instance q)) _ _ (
      λ a e. absurd (omega arith),
      λ a. (λ b e. absurd (omega arith), λ b. (λ c e. absurd (omega arith), λ c e. new_facts bytes q m a b c)),
    )

-- the theorem
pub facts : EveryDriven
facts i (creation bytes q m e) = created_facts bytes q m e
facts i (call j k c t d e) = subst Facts e (call_facts j c t (facts j d))

-- the theorem: a path leads to what live nodes lead up from
pub reached_rooted : EveryReached
reached_rooted i d path x e = path_rooted i i.tree.next (facts i d).tree.shape.rises path x e
