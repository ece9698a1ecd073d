-- The slots of a new instance: what is copied is 256 empty ones. Assumes nothing.
use mathlib.Core.Path.{◌≡◌, refl, sym, ap, ◌∙◌}
use mathlib.Core.Logic.{inl}
use mathlib.Core.List.{List, [], ◌∷◌}
use Prim.Native.Nat.{ℕ, zero, suc, ◌+◌, ◌*◌, ◌≤◌, ◌<◌}
use native.Mathlib.Nat.{one-mul}
use native.Mathlib.Numerals.{add-one}
use native.Mathlib.Omega.{arith}
use lib.ListN.{length, get_or, drop, replicate, length-replicate, drop_of_length-le}
use lib.Seq.{drop-cons}
use Rattle.le.specs.Mem.{read, write, value, bytes_of, put}
use Rattle.le.proofs.Lens.{length-write, length_put, put_write, read_apart, read_filled}
use Rattle.rules.specs.Instance.{empty_slot}
use Rattle.index.specs.declared.FsIndexes.{FsIndexes}
use Rattle.index.specs.Slots.{New}
use Rattle.tables.specs.Layout.{table_at, occupancy_at, tags_at}
use Rattle.tables.specs.Table.{row, tab}
use Rattle.tables.specs.View.{slot_from, slot_at, slots_of}
use Rattle.storage.specs.Creation.{tag_bytes, empty_slots}

-- ---- the slots

-- what is left of the tags, written here, gives what all of them give
abbrev pub Tags : List ℕ → List ℕ → List ℕ → ℕ → Type 0
Tags s₀ tags s k = (k ≤ length tags) × ((length s ≡ length s₀) × (write s (tags_at + 4 * k) (tag_bytes (drop k tags)) ≡ write s₀ tags_at (tag_bytes tags)))

pub tags_next : (s₀ tags s s' : List ℕ) (k : ℕ) → Tags s₀ tags s k → k < length tags → s' ≡ put 4 s (tags_at + 4 * k) (get_or tags k 0) → Tags s₀ tags s' (k + 1)
unfolding tag_bytes
tags_next s₀ tags s s' k i h p =
    let e : tags_at + 4 * (k + 1) ≡ tags_at + 4 * k + 4 = omega arith in
    let d : drop k tags ≡ get_or tags k 0 ∷ drop (k + 1) tags = rw (add-one, drop-cons tags k 0) in
    let step : write (put 4 s (tags_at + 4 * k) (get_or tags k 0)) (tags_at + 4 * k + 4) (tag_bytes (drop (k + 1) tags)) ≡ write s₀ tags_at (tag_bytes tags) =
    put_write 4 s (tags_at + 4 * k) (get_or tags k 0) (tag_bytes (drop (k + 1) tags)) ∙ (sym (ap (λ (l : List ℕ). write s (tags_at + 4 * k) (tag_bytes l)) d) ∙ i.1.1) in
    (omega arith, (ap length p ∙ (length_put 4 s (tags_at + 4 * k) (get_or tags k 0) ∙ i.1.0), rw (p, e) step))

pub tags_all : (s₀ tags s : List ℕ) (k : ℕ) → Tags s₀ tags s k → length tags ≤ k → s ≡ write s₀ tags_at (tag_bytes tags)
unfolding tag_bytes
tags_all s₀ tags s k i h =
    let d : drop k tags ≡ [] = drop_of_length-le tags h in
    rw d at i.1.1

zero_tags : (n : ℕ) → tag_bytes (replicate n 0) ≡ replicate (4 * n) 0
unfolding tag_bytes bytes_of
zero_tags zero = refl
zero_tags (suc n) =
    let e : 4 * suc n ≡ suc (suc (suc (suc (4 * n)))) = omega arith in
    rw (e, zero_tags n)

-- a new table of indexes, as it is copied
pub slots_new : (mem : List ℕ) (t : FsIndexes) → New t → write (write mem occupancy_at t.used) tags_at (tag_bytes t.tags) ≡ empty_slots mem
unfolding empty_slots
slots_new mem t n =
    ap (λ (x : FsIndexes). write (write mem occupancy_at x.used) tags_at (tag_bytes x.tags)) n.whole
    ∙ ap (write (write mem occupancy_at (replicate 256 0)) tags_at) (zero_tags 256)

pub length_slots : (mem : List ℕ) → length (empty_slots mem) ≡ length mem
unfolding empty_slots
length_slots mem = length-write (write mem occupancy_at (replicate 256 0)) tags_at (replicate 1024 0) ∙ length-write mem occupancy_at (replicate 256 0)

tab_one : {A : Type 0} (f : ℕ → A) (a : A) (i k : ℕ) → ((j : ℕ) → j < i + k → f j ≡ a) → tab f i k ≡ replicate k a
unfolding tab
tab_one f a i zero h = refl
tab_one f a i (suc k) h = λ t. h i (omega arith) t ∷ tab_one f a (i + 1) k (λ j b. h j (omega arith)) t

module _ (mem : List ℕ) (l : table_at ≤ length mem) (j : ℕ) (h : j < 256) where
  used_zero : read (empty_slots mem) (256 + 1 * j) 1 ≡ replicate 1 0
  unfolding empty_slots
  used_zero =
      rw one-mul
      (read_apart (write mem occupancy_at (replicate 256 0)) tags_at (replicate 1024 0) 1024 (occupancy_at + j) 1 (length-replicate {A = ℕ} 1024 0) (inl (omega arith))
      ∙ read_filled mem 256 256 0 j 1 (omega arith) (omega arith))

  tag_zero : read (empty_slots mem) (tags_at + 4 * j) 4 ≡ replicate 4 0
  unfolding empty_slots
  tag_zero = read_filled (write mem occupancy_at (replicate 256 0)) tags_at 1024 0 (4 * j) 4 (omega (arith, length-write mem occupancy_at (replicate 256 0))) (omega arith)

  slot_empty_lem : slot_at (empty_slots mem) j ≡ empty_slot
  unfolding slot_at row slot_from value
  slot_empty_lem = ap slot_from (λ t. used_zero t ∷ tag_zero t ∷ [])

pub slots_empty : (mem : List ℕ) → table_at ≤ length mem → slots_of (empty_slots mem) ≡ replicate 256 empty_slot
unfolding slots_of
slots_empty mem l = tab_one (slot_at (empty_slots mem)) empty_slot 0 256 (λ j h. slot_empty_lem mem l j (omega arith))
