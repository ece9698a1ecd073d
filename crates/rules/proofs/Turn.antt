-- What one call does to the counter. Assumes nothing.
use mathlib.Core.Path.{◌≡◌, refl, sym, ap, ◌∙◌}
use mathlib.Core.Logic.{◌⊎◌, inl, inr}
use Rattle.std.specs.Prelude.{Option, None, Some}
use Rattle.std.proofs.lemmas.Option.{none-some}
use mathlib.Core.List.{List}
use Prim.Native.Nat.{ℕ, ◌+◌, ◌%◌, ◌<◌}
use native.Mathlib.Omega.{arith}
use lib.ListN.{length}
use lib.Seq.{get_or-set_same}
use Rattle.rules.specs.Round.{going_round, until_twice, visited, allocate}
use Rattle.rules.specs.Tree.{Mount}
use Rattle.rules.specs.Instance.{Instance, counter_of, empty_slot, held_by, tag_of, mount_of_node}
use Rattle.rules.specs.Outcome.{Answer, Outcome, refused}
use Rattle.rules.specs.Mount.{Request, freed, placed, allocation, stepped, allocated, walked_to, ended, mount_by_index, mount_rule, restore_mount_by_index}
use Rattle.rules.specs.Unmount.{unmounts}
use Rattle.rules.specs.StateRestore.{restore_state_rule}
use Rattle.rules.specs.Calls.{Call, mount, rule}
use Rattle.rules.specs.claims.Trace.{NoStateRestore, Moves, Keeps, MountAnswers, EveryMount, OnlyMounts}
use Rattle.rules.proofs.Rows.{each_of}
use Rattle.rules.proofs.Ways.{mount_passed, every_call}
use Rattle.rules.proofs.Slots.{freed_slots_lem}

-- ---- mount

placed_counter : (k : ℕ) (r : Request) (x : ℕ) (i : Instance) → counter_of (placed k r x i) ≡ counter_of i
unfolding placed
placed_counter k r x i = refl

moves : (i j : Instance) (r : Request) (code : ℕ) (a : Answer) → counter_of j ≡ counter_of (stepped i) → Moves i (mount r) (allocated i code a j) r
moves i j r code a e = record { call = refl; visits = refl; found = refl; counter = e }

pub placed_tag : (k : ℕ) (r : Request) (x : ℕ) (i : Instance) → k < length i.indexes.slots → tag_of (placed k r x i) k ≡ Some r.tag
unfolding placed
placed_tag k r x i h =
    let j = freed (mount_of_node i.tree x) i in
    rw (get_or-set_same j.indexes.slots k (held_by r.tag) empty_slot (rw (freed_slots_lem (mount_of_node i.tree x) i.indexes.slots) h))

mount_as : (i : Instance) (r : Request) (k : Option ℕ) → Moves i (mount r) (mount_by_index i r k) r
unfolding mount_by_index
mount_as i r None = moves i (stepped i) r _ _ refl
mount_as i r (Some k) =
    let j = walked_to r.path (stepped i) in
    each_of (λ (o : Outcome). Moves i (mount r) o r) _ _
    (moves i (stepped i) r _ _ refl, (moves i j r _ _ refl, moves i _ r _ _ (placed_counter _ _ _ _)))

-- a done one answers what its allocation found
answers_as : (i : Instance) (r : Request) (k : Option ℕ) → (allocation i).found ≡ k → (mount_by_index i r k).code ≡ 0 → (j : ℕ) × MountAnswers i r (mount_by_index i r k) j
unfolding mount_by_index
answers_as i r None e = λ z. absurd (omega arith)
answers_as i r (Some k) e =
    each_of (λ (o : Outcome). o.code ≡ 0 → (j : ℕ) × MountAnswers i r o j) _ _ (
      λ z. absurd (omega arith),
      (
        λ z. absurd (omega arith),
        λ z. (k, record { found = e; told = (_, refl); holds = placed_tag k r (ended i r.path) (walked_to r.path (stepped i)) }),
      ),
    )

answers_done : (i : Instance) (r : Request) → (mount_rule i r).code ≡ 0 → (k : ℕ) × MountAnswers i r (mount_rule i r) k
unfolding mount_rule
answers_done i r =
    each_of (λ (o : Outcome). o.code ≡ 0 → (k : ℕ) × MountAnswers i r o k) _ _
    (λ z. absurd (omega arith), (λ z. absurd (omega arith), (λ z. absurd (omega arith), (λ z. absurd (omega arith), answers_as i r (allocation i).found refl))))

-- the theorem: a mount that rows 1 to 4 let pass makes its allocation, and what it finds is what is answered
pub mounts_allocate : EveryMount
mounts_allocate i r = record {
  moves = λ l u m n. rw (mount_passed i r (record { short = l; utf8 = u; largest = m; room = n })) (mount_as i r (allocation i).found);
  answers = answers_done i r;
}

abbrev Turns : Instance → Call → Outcome → Type 0
Turns i c o = NoStateRestore c o → Keeps i o ⊎ ((r : Request) × Moves i c o r)

-- ---- the others

keeps_refused : (i : Instance) (code : ℕ) → Keeps i (refused code i)
keeps_refused i code = record { visits = refl; found = refl; counter = refl }

restored_as : (i : Instance) (k : ℕ) (r : Request) → Keeps i (restore_mount_by_index i k r)
unfolding restore_mount_by_index
restored_as i k r =
    each_of (Keeps i) _ _ (record { visits = refl; found = refl; counter = refl }, record { visits = refl; found = refl; counter = placed_counter _ _ _ _ })

unmounted : (i : Instance) (x : ℕ) (m : Mount) → Keeps i (unmounts i x m)
unfolding unmounts
unmounted i x m = record { visits = refl; found = refl; counter = refl }

-- the theorem: no call but an allocation, and a done state restore, moves the counter
pub only_mounts : OnlyMounts
only_mounts = every_call Turns (record {
  still = λ i c o m s un. inl (record { visits = s.visits; found = s.found; counter = ap counter_of s.after });
  early = λ i c code e un. inl (keeps_refused i code);
  mounts = λ i r p un. inr (r, mount_as i r (allocation i).found);
  restores_mount = λ i k r p on un. inl (restored_as i k r);
  unmounted = λ i path x m q e un. inl (unmounted i x m);
  sets_removal = λ i un. inl (record { visits = refl; found = refl; counter = refl });
  state_restored = λ i b ok un. absurd (un b refl refl);
})

-- a search moves the counter by as many as it visits
pub seen_moved : (i : Instance) → (allocation i).counter ≡ (counter_of i + length (allocation i).visits) % 256
unfolding allocation allocate
seen_moved i = refl

-- and it visits one at least
pub visits_some : (i : Instance) → 0 < length (allocation i).visits
unfolding allocation allocate until_twice going_round visited
visits_some i = omega arith

-- a call that handed an index out is no state restore
restore_finds : (i : Instance) (b : List ℕ) → (restore_state_rule i b).found ≡ None
unfolding restore_state_rule
restore_finds i b = each_of (λ (o : Outcome). o.found ≡ None) _ _ (refl, (refl, (refl, (refl, refl))))

pub found_no_restore : (i : Instance) (c : Call) (k : ℕ) → (rule i c).found ≡ Some k → NoStateRestore c (rule i c)
unfolding rule
found_no_restore i c k e b is done =
    none-some k (sym (ap (λ (d : Call). (rule i d).found) is ∙ restore_finds i b) ∙ e)
