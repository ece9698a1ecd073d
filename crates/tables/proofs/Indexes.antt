-- Slots read from the memory: how many, what one holds, and that a search over the lent occupancy bytes is a search over the slots.
-- Assumes nothing.
use mathlib.Core.Path.{◌≡◌, refl, sym, ap, ◌∙◌}
use mathlib.Core.Bool.{Bool, not, cond, ◌&&◌}
use mathlib.Core.List.{List, [], ◌∷◌}
use Rattle.std.specs.Prelude.{Option, None, Some}
use Prim.Native.Nat.{ℕ, zero, suc, ◌+◌, ◌*◌, ◌%◌, ◌<◌}
use native.Mathlib.Nat.{one-mul, zero-add}
use native.Mathlib.Omega.{arith}
use borrow.Author.Tests.{eq-eqb, ne_eqb}
use lib.ListN.{length, take, drop}
use lib.Seq.{get_or-take, get_or-drop}
use lib.Dec.{eqb}
use Rattle.le.specs.Mem.{get}
use Rattle.le.proofs.Lens.{get_one}
use Rattle.rules.specs.Instance.{empty_slot, slot_of, tag_in_slot, tag_of}
use Rattle.rules.specs.Round.{going_round, until_twice, visited, first_free, free_of, allocate}
use Rattle.index.specs.Slots.{held_in_column}
use Rattle.index.specs.Search.{search_told}
use Rattle.index.specs.declared.Allocated.{Allocated}
use Rattle.tables.specs.Table.{row}
use Rattle.tables.specs.Layout.{occupancy_at, tags_at, counter_byte}
use Rattle.tables.specs.View.{slot_from, slot_at, slots_of, view}
use Rattle.tables.specs.Answer.{is_held}
use Rattle.tables.proofs.Tab.{length_tab, tab_at}

-- 256 slots are seen in the bytes
pub slots_count : (mem : List ℕ) → length (view mem).indexes.slots ≡ 256
unfolding view slots_of
slots_count mem = length_tab _ 0 256

-- ---- what a slot holds

-- slot k of the instance is slot k of the memory
pub slot_of_lem : (mem : List ℕ) (k : ℕ) → k < 256 → slot_of (view mem) k ≡ slot_at mem k
unfolding view slots_of
slot_of_lem mem k h = tab_at (slot_at mem) 0 256 k empty_slot h ∙ ap (slot_at mem) (zero-add k)

pub tag_of_is : (mem : List ℕ) (k : ℕ) (t : Option ℕ) → k < 256 → t ≡ tag_in_slot (slot_at mem k) → t ≡ tag_of (view mem) k
tag_of_is mem k t h e = e ∙ ap tag_in_slot (sym (slot_of_lem mem k h))

module _ (mem : List ℕ) (k : ℕ) where
  pub tag_empty : get 1 mem (occupancy_at + k) ≡ 0 → None ≡ tag_in_slot (slot_at mem k)
  unfolding slot_at slot_from row get
  tag_empty e = rw (one-mul, eq-eqb _ 0 e)

  pub tag_held : (get 1 mem (occupancy_at + k) ≡ 0 → ⊥) → Some (get 4 mem (tags_at + 4 * k)) ≡ tag_in_slot (slot_at mem k)
  unfolding slot_at slot_from row get
  tag_held n = rw (one-mul, ne_eqb _ 0 n)

  -- its occupancy byte, among those that are lent
  pub held_lent : k < 256 → held_in_column (take 256 (drop occupancy_at mem)) k ≡ is_held mem k
  unfolding held_in_column slot_at slot_from row get
  held_lent h = rw (get_or-take, get_or-drop, one-mul, get_one)

-- ---- a search asks indexes below 256 alone

module _ (held held' : ℕ → Bool) (same : (k : ℕ) → k < 256 → held k ≡ held' k) where
  found_same : (n i : ℕ) → i < 256 → first_free (free_of held) (going_round n i) ≡ first_free (free_of held') (going_round n i)
  unfolding going_round first_free
  found_same zero i h = refl
  found_same (suc n) i h = λ t. cond (not (eqb i 0) && not (same i h t)) (Some i) (found_same n ((i + 1) % 256) (omega arith) t)

  visited_same : (n i : ℕ) → i < 256 → visited (free_of held) (going_round n i) ≡ visited (free_of held') (going_round n i)
  unfolding going_round visited
  visited_same zero i h = refl
  visited_same (suc n) i h = λ t. i ∷ cond (not (eqb i 0) && not (same i h t)) [] (visited_same n ((i + 1) % 256) (omega arith) t)

  pub allocate_same : (counter : ℕ) → counter < 256 → allocate held counter ≡ allocate held' counter
  unfolding allocate until_twice
  allocate_same counter h = λ t. record { found = found_same 257 counter h t; visits = visited_same 257 counter h t; counter = (counter + length (visited_same 257 counter h t)) % 256 }

-- a search over the lent occupancy bytes that begins at the counter is the search of the rules over the slots
pub searched : (mem : List ℕ) (a : Allocated) (first : ℕ) → a ≡ search_told (allocate (held_in_column (take 256 (drop occupancy_at mem))) first) → first ≡ counter_byte mem → first < 256
    → a ≡ search_told (allocate (is_held mem) (counter_byte mem))
searched mem a first found begins small =
    found ∙ ap search_told (allocate_same (held_in_column (take 256 (drop occupancy_at mem))) (is_held mem) (held_lent mem) first small ∙ ap (allocate (is_held mem)) begins)
