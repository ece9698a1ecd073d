-- A mount, a restored mount and an unmount keep what holds of every driven instance. Assumes nothing.
use mathlib.Core.Path.{◌≡◌, refl, ◌∙◌}
use mathlib.Core.Bool.{true, false, not, ◌&&◌}
use mathlib.Core.List.{List}
use Rattle.std.specs.Prelude.{Option, None, Some}
use Prim.Native.Nat.{ℕ, ◌+◌}
use native.Mathlib.Omega.{arith}
use lib.ListN.{length, length-append, length-set}
use lib.Dec.{eqb, ltb}
use borrow.Author.Tests.{ltb-false, not-false}
use Rattle.rules.specs.Numbers.{root_number, top_number}
use Rattle.rules.specs.Utf8.{well_formed}
use Rattle.rules.specs.Path.{too_long, rooted}
use Rattle.rules.specs.Tree.{Mount}
use Rattle.rules.specs.Instance.{Tree, Instance, empty_slot, held_by, mount_of_node, set_mount, cut, live}
use Rattle.rules.specs.Outcome.{Outcome}
use Rattle.rules.specs.Mount.{Request, planned, needed, no_room, freed_slots, requested_mount, placed, stepped, walked_to, mount_by_index, restore_mount_by_index}
use Rattle.rules.specs.Unmount.{taken, unmounts}
use Rattle.rules.specs.claims.Driven.{TreeFacts, Facts, Rooted}
use Rattle.rules.proofs.Tests.{and_rest, or_neither}
use Rattle.rules.proofs.Rows.{first_of_lem, each_of, either}
use Rattle.rules.proofs.Ways.{Passed}
use Rattle.rules.proofs.Shape.{saved_mount, shape_less, length_less, length_mount}
use Rattle.rules.specs.claims.Walk.{Walking}
use Rattle.rules.proofs.Walk.{planned_walking}
use Rattle.rules.proofs.Slots.{freed_slots_lem}
use Rattle.rules.proofs.Turn.{seen_moved}
use Rattle.rules.proofs.Held.{held_grown, held_placed, held_taken}

-- ---- the tree, its mounts left aside

set_tree : (cap : ℕ) (t : Tree) (x : ℕ) (m : Option Mount) → TreeFacts cap t → TreeFacts cap (set_mount t x m)
unfolding set_mount
set_tree cap t x m f =
    either (TreeFacts cap) (eqb x root_number) (λ e. record { shape = f.shape; top = f.top; room = f.room })
    (λ e. record { shape = rw (saved_mount m t.nodes x) f.shape; top = f.top; room = omega (arith, f.room, length_mount m t.nodes x) })

cut_tree : (cap : ℕ) (t : Tree) (x : ℕ) → TreeFacts cap t → TreeFacts cap (cut x t)
cut_tree cap t x f = record { shape = shape_less t.nodes x t.next f.shape; top = f.top; room = omega (arith, f.room, length_less t.nodes x) }

taken_tree : (i : Instance) (x : ℕ) → TreeFacts i.fixed.capacity i.tree → TreeFacts i.fixed.capacity (taken i x)
unfolding taken
taken_tree i x f =
    let cap = i.fixed.capacity in
    let g = set_tree cap i.tree x None f in
    either (TreeFacts cap) (i.removal && not (eqb x root_number)) (λ e. cut_tree cap (set_mount i.tree x None) x g) (λ e. g)

-- ---- mounts

stepped_facts : (i : Instance) → Facts i → Facts (stepped i)
stepped_facts i f = record {
  tree = f.tree;
  mounts = record { slots = f.mounts.slots; counter = omega (arith, seen_moved i); held = f.mounts.held };
  settings = f.settings;
}

-- the nodes of a mount walk are made, where there is room
module _ (i : Instance) (f : Facts i) (path : List ℕ) (l : too_long path ≡ false) (u : well_formed path ≡ true) (room : no_room i path ≡ false) where
  walks : Walking i.tree.nodes i.tree.next (planned i.tree path)
  walks = planned_walking i.tree path f.tree.shape l u

  walked_facts : Facts (walked_to path i)
  unfolding no_room needed
  walked_facts =
      let ms = (planned i.tree path).nodes in
      let o = or_neither (ltb i.fixed.capacity (live i + length ms)) (ltb top_number (i.tree.next + length ms)) room in
      let a = ltb-false i.fixed.capacity (live i + length ms) o.0 in
      record {
        tree = record {
          shape = walks.shape;
          top = ltb-false top_number (i.tree.next + length ms) o.1;
          room = simp length-append (omega (arith, a));
        };
        mounts = record { slots = f.mounts.slots; counter = f.mounts.counter; held = held_grown i ms f.mounts.held };
        settings = f.settings;
      }

placed_facts : (k : ℕ) (r : Request) (x : ℕ) (i : Instance) → Rooted i.tree.nodes x → Facts i → Facts (placed k r x i)
unfolding placed
placed_facts k r x i w f =
    let m = mount_of_node i.tree x in
    let slots = freed_slots m i.indexes.slots in
    record {
      tree = set_tree i.fixed.capacity i.tree x (Some (requested_mount k r)) f.tree;
      mounts = record {
        slots = length-set slots k (held_by r.tag) ∙ (freed_slots_lem m i.indexes.slots ∙ f.mounts.slots);
        counter = f.mounts.counter;
        held = held_placed k r x i w f.mounts.held;
      };
      settings = f.settings;
    }

-- the instance after has them too
abbrev pub Keeps : Outcome → Type 0
Keeps o = Facts o.after

module _ (i : Instance) (r : Request) (f : Facts i) (p : Passed i r) where
  -- a step of the counter leaves the room as it is
  same_room : no_room (stepped i) r.path ≡ no_room i r.path
  unfolding no_room
  same_room = refl

  pub mount_as : (k : Option ℕ) → Keeps (mount_by_index i r k)
  unfolding mount_by_index
  mount_as None = stepped_facts i f
  mount_as (Some k) =
      let s = stepped_facts i f in
      first_of_lem Keeps _ _ (
        λ a. s,
        λ a.
            let n = same_room ∙ and_rest (rooted r.path) (no_room i r.path) p.room (not-false _ a) in
            let w = walked_facts (stepped i) s r.path p.short p.utf8 n in
            (λ b. w, λ b. placed_facts _ _ _ _ (walks (stepped i) s r.path p.short p.utf8 n).reached w),
      )

  pub restored_as : rooted r.path ≡ true → (k : ℕ) → Keeps (restore_mount_by_index i k r)
  unfolding restore_mount_by_index
  restored_as on k =
      let n = and_rest (rooted r.path) (no_room i r.path) p.room on in
      let w = walked_facts i f r.path p.short p.utf8 n in
      each_of Keeps _ _ (search w, placed_facts _ _ _ _ (walks i f r.path p.short p.utf8 n).reached w)

pub unmounted : (i : Instance) (x : ℕ) (m : Mount) → mount_of_node i.tree x ≡ Some m → Facts i → Keeps (unmounts i x m)
unfolding unmounts
unmounted i x m e f = record {
  tree = taken_tree i x f.tree;
  mounts = record {
    slots = length-set i.indexes.slots m.index empty_slot ∙ f.mounts.slots;
    counter = f.mounts.counter;
    held = held_taken i x m e f.mounts.held;
  };
  settings = f.settings;
}
