-- What was mounted can be put back after a restart: a path that led to a node leads there, and no room is needed. Assumes nothing.
use mathlib.Core.Path.{◌≡◌, refl, sym, ap, ◌∙◌}
use mathlib.Core.Bool.{false}
use mathlib.Core.List.{List, [], ◌∷◌}
use Rattle.std.specs.Prelude.{Some}
use Prim.Native.Nat.{ℕ, ◌+◌, ◌≤◌}
use native.Mathlib.Omega.{arith}
use lib.ListN.{length}
use borrow.Author.Tests.{ltb-false, le-ltb, ne_eqb}
use Rattle.rules.specs.Numbers.{max_ino, top_number}
use Rattle.rules.specs.Tree.{Made}
use Rattle.rules.specs.Instance.{Fixed, Instance, live}
use Rattle.rules.specs.Outcome.{first_of}
use Rattle.rules.specs.Mount.{needed, no_room, restore_mount_by_index, restore_mount_rule}
use Rattle.rules.specs.Saved.{State, encode, state_of}
use Rattle.rules.specs.StateRestore.{saved_nodes, saved_state, state_restored_to}
use Rattle.rules.specs.Reached.{reached}
use Rattle.rules.specs.Calls.{Call, rule}
use Rattle.rules.specs.claims.Trace.{after_all}
use Rattle.rules.specs.claims.PutBack.{Back, EveryPutBack}
use Rattle.rules.proofs.Encoded.{state_read}
use Rattle.rules.proofs.Shape.{saved_length}
use Rattle.rules.proofs.Driven.{facts}
use Rattle.rules.proofs.SaveThenRestore.{saved_fits}
use Rattle.rules.proofs.Stays.{stays}
use Rattle.rules.proofs.Planned.{planned_none}
use Rattle.rules.proofs.Putting.{reached_still}
use Rattle.rules.proofs.PutBack.{done_room, along_all, gives, start}

-- the capacity is what it was
fixed_all : (cs : List Call) (j : Instance) → (after_all j cs).fixed ≡ j.fixed
unfolding after_all
fixed_all [] j = refl
fixed_all (c ∷ cs) j = fixed_all cs (rule j c).after ∙ (stays j c).fixed

module _ (i f j : Instance) (cs : List Call) (ks : List ℕ) (b : Back i f j cs ks) where
  abbrev last : Instance
  last = after_all j cs

  same_room : last.fixed.capacity ≡ f.fixed.capacity
  unfolding state_restored_to
  same_room = ap (λ (x : Fixed). x.capacity) (fixed_all cs j) ∙ ap (λ (a : Instance). a.fixed.capacity) (gives i f j cs ks b)

  has_room : live last ≤ last.fixed.capacity
  unfolding saved_state
  has_room =
      let a = along_all i (facts i b.before) j cs ks b.put (start i f j cs ks b) in
      let n : length (state_of (encode (saved_state i))).nodes ≡ length (saved_nodes i.tree.nodes) = ap (λ (s : State). length s.nodes) (state_read (saved_state i) (saved_fits i (facts i b.before))) in
      let m : length last.tree.nodes ≡ length (saved_nodes i.tree.nodes) = sym (saved_length last.tree.nodes) ∙ ap length a.nodes in
      omega (arith, same_room, n, m, ltb-false f.fixed.capacity (1 + length (state_of (encode (saved_state i))).nodes) (done_room f (encode (saved_state i)) b.restored.done).1)

  no_need : (path : List ℕ) (x : ℕ) → reached i path ≡ Some x → no_room last path ≡ false
  unfolding no_room needed
  no_need path x e =
      let d = facts i b.before in
      let a = along_all i d j cs ks b.put (start i f j cs ks b) in
      let none_made = ap (λ (m : Made). length m.nodes) (planned_none last path x (reached_still i last d a.nodes path x e)) in
      rw (none_made, le-ltb last.fixed.capacity (live last + 0) (omega (arith, has_room)), le-ltb top_number (last.tree.next + 0) (omega (arith, d.tree.top, a.next)))

-- the theorem
pub every_put_back : EveryPutBack
unfolding rule restore_mount_rule restore_mount_by_index first_of
every_put_back i f j cs ks b r s x e k p =
    rw (s.short, s.utf8, ne_eqb k 0 (λ q. omega arith), le-ltb max_ino r.largest s.largest, s.slash, no_need i f j cs ks b r.path x e, le-ltb max_ino r.root s.root)
