-- A walk over the records: where each starts, which stand before it, and what they say of one record. Assumes nothing.
use Rattle.std.proofs.Common.{◌≡◌, ℕ, zero, suc, ◌+◌, ◌-◌, ◌<◌, ◌≤◌, Bool, true, false, not, ◌||◌, eqb, List, [], ◌∷◌, length, get_or, refl, sym, ap, ◌∙◌, add-zero, add-suc, zero-add, add-one, arith, eqb-true}
use mathlib.Core.Bool.{and-true, or-true}
use Rattle.std.proofs.Math.Bool.{or_comm}
use Rattle.rules.specs.Tests.{every}
use Rattle.rules.specs.Saved.{SavedNode, saved_node_at, behind, saved_nodes_at, end_at, present, used}
use Rattle.rules.proofs.Tests.{passed, fails}
use Rattle.std.specs.List.{list_all, enumerate_from}
use Rattle.saved_parts.specs.Starts.{places_at}
use Rattle.saved.specs.Scan.{start_of, earlier, sound_to, twin, well_placed, all_placed}

-- ---- where records start

pub start_next : (b : List ℕ) (i at : ℕ) → at ≡ start_of b i → behind b at ≡ start_of b (i + 1)
unfolding start_of
start_next b i at e = rw (add-one, ← e)

starts_on : (b : List ℕ) (j k : ℕ) → start_of b j ≤ start_of b (j + k)
unfolding start_of
starts_on b j zero = rw add-zero (omega arith)
starts_on b j (suc k) = rw add-suc (omega (arith, starts_on b j k))

pub starts_up : (b : List ℕ) (j i : ℕ) → j ≤ i → start_of b j ≤ start_of b i
starts_up b j i h =
    let s : j + (i - j) ≡ i = omega arith in
    rw s at (starts_on b j (i - j))

-- record j, of the first i, ends where those end or before
pub within : (b : List ℕ) (i j p : ℕ) → p ≡ start_of b j → j < i → behind b p ≤ start_of b i
within b i j p e h = omega (arith, start_next b j p e, starts_up b (j + 1) i (omega arith))

pub ends_start : (b : List ℕ) (k i : ℕ) → end_at b k (start_of b i) ≡ start_of b (i + k)
unfolding end_at start_of
ends_start b zero i = rw add-zero
ends_start b (suc k) i =
    let e : suc i + k ≡ i + suc k = omega arith in
    ends_start b k (suc i) ∙ ap (start_of b) e

-- records that fill the bytes up to a place end there
pub sound_ends : (b : List ℕ) (next to k last : ℕ) → sound_to b next to k 0 last ≡ true → start_of b k ≡ to
unfolding sound_to start_of
sound_ends b next to k last h =
    let e : end_at b k 0 ≡ start_of b k = ends_start b k 0 ∙ ap (start_of b) (zero-add k) in
    sym e ∙ eqb-true (end_at b k 0) to (passed _ h).0

-- ---- those before one

earlier_next : (b : List ℕ) (j p : ℕ) → p ≡ start_of b j → earlier b (j + 1) ≡ saved_node_at b p ∷ earlier b j
unfolding earlier
earlier_next b j p e = rw (add-one, e)

-- going up: one more is passed
module _ (b : List ℕ) (n : SavedNode) (j p : ℕ) (e : p ≡ start_of b j) where
  pub present_next : present n.parent (earlier b (j + 1)) ≡ (present n.parent (earlier b j) || eqb (saved_node_at b p).number n.parent)
  unfolding present
  present_next = rw (earlier_next b j p e) (or_comm (eqb (saved_node_at b p).number n.parent) (present n.parent (earlier b j)))

  used_here : twin (saved_node_at b p) n ≡ true → used n.parent n.name (earlier b (j + 1)) ≡ true
  unfolding used twin
  used_here t = rw (earlier_next b j p e, t)

  pub used_on : twin (saved_node_at b p) n ≡ false → used n.parent n.name (earlier b (j + 1)) ≡ used n.parent n.name (earlier b j)
  unfolding used twin
  used_on t = rw (earlier_next b j p e, t)

used_stays : (b : List ℕ) (x : ℕ) (q : List ℕ) (j k : ℕ) → used x q (earlier b j) ≡ true → used x q (earlier b (j + k)) ≡ true
unfolding used earlier
used_stays b x q j zero t = rw add-zero t
used_stays b x q j (suc k) t = rw (add-suc, used_stays b x q j k t, or-true)

pub used_among : (b : List ℕ) (n : SavedNode) (i j p : ℕ) → p ≡ start_of b j → j < i → twin (saved_node_at b p) n ≡ true → used n.parent n.name (earlier b i) ≡ true
used_among b n i j p e h t =
    let s : j + 1 + (i - (j + 1)) ≡ i = omega arith in
    rw s at (used_stays b n.parent n.name (j + 1) (i - (j + 1)) (used_here b n j p e t))

-- ---- a record is placed, or not

module _ (before : List SavedNode) (n : SavedNode) where
  pub not_present : present n.parent before ≡ false → well_placed before n ≡ false
  unfolding well_placed
  not_present h = fails 0 _ h

  pub is_used : used n.parent n.name before ≡ true → well_placed before n ≡ false
  unfolding well_placed
  is_used h = fails 1 _ (ap not h)

  if_present : used n.parent n.name before ≡ false → present n.parent before ≡ well_placed before n
  unfolding well_placed every
  if_present h = rw (h, and-true)

  pub if_unused : present n.parent before ≡ true → not (used n.parent n.name before) ≡ well_placed before n
  unfolding well_placed every
  if_unused h = rw (h, and-true)

pub scanned : (b : List ℕ) (n : SavedNode) (i j : ℕ) (found : Bool) → i ≤ j → j ≤ i → found ≡ present n.parent (earlier b j) → used n.parent n.name (earlier b j) ≡ false
    → found ≡ well_placed (earlier b i) n
scanned b n i j found h g f u =
    let s : i ≡ j = omega arith in
    rw s (f ∙ if_present (earlier b j) n u)

-- ---- all records, by their places

module _ (b : List ℕ) where
  -- the test of `are_all_placed`
  abbrev pub placed : ℕ × ℕ → Bool
  placed p = well_placed (earlier b p.0) (saved_node_at b p.1)

  -- the places of k records from record i on, each with how many stand before it
  abbrev pub numbered : ℕ → ℕ → List (ℕ × ℕ)
  numbered k i = enumerate_from i (places_at b k (start_of b i))

  all_from : (k i : ℕ) → list_all placed (numbered k i) ≡ all_placed (earlier b i) (saved_nodes_at b k (start_of b i))
  unfolding places_at saved_nodes_at all_placed earlier start_of
  all_from zero i = refl
  all_from (suc k) i = rw (add-one, all_from k (suc i))

  pub all_by : (count : ℕ) → list_all placed (enumerate_from 0 (places_at b count 0)) ≡ all_placed [] (saved_nodes_at b count 0)
  unfolding earlier start_of
  all_by count = all_from count 0

  numbered_at : (k i j : ℕ) (d : ℕ × ℕ) → j < k → get_or (numbered k i) j d ≡ (i + j, start_of b (i + j))
  unfolding places_at start_of
  numbered_at zero i j d h = absurd (omega arith)
  numbered_at (suc k) i zero d h = rw add-zero
  numbered_at (suc k) i (suc j) d h = let e : suc i + j ≡ i + suc j = omega arith in rw add-one (rw e at (numbered_at k (suc i) j d (omega arith)))

  numbered_length : (k i : ℕ) → length (numbered k i) ≡ k
  unfolding places_at start_of
  numbered_length zero i = refl
  numbered_length (suc k) i = rw add-one (ap suc (numbered_length k (suc i)))

  -- the same, of the places alone
  place_at : (k i j d : ℕ) → j < k → get_or (places_at b k (start_of b i)) j d ≡ start_of b (i + j)
  unfolding places_at start_of
  place_at zero i j d h = absurd (omega arith)
  place_at (suc k) i zero d h = rw add-zero
  place_at (suc k) i (suc j) d h = let e : suc i + j ≡ i + suc j = omega arith in rw e at (place_at k (suc i) j d (omega arith))

  pub places_length : (k at : ℕ) → length (places_at b k at) ≡ k
  unfolding places_at
  places_length zero at = refl
  places_length (suc k) at = ap suc (places_length k (behind b at))

  -- a turn of a `for` over the first k: the place is that of the next record
  pub turn : (k j p : ℕ) → (j < length (places_at b k 0)) × (p ≡ get_or (places_at b k 0) j p) → (j < k) × (p ≡ start_of b j)
  unfolding start_of
  turn k j p t =
      let l = places_length k 0 in
      let h : j < k = omega (arith, t.0) in
      (h, t.1 ∙ place_at k 0 j p h ∙ ap (start_of b) (zero-add j))

  -- and its end
  pub last_turn : (k j : ℕ) → j ≡ length (places_at b k 0) → j ≡ k
  last_turn k j e = e ∙ places_length k 0

  -- a turn of such a `for` that counts
  pub numbered_turn : (k i at j : ℕ) → j < length (enumerate_from 0 (places_at b k 0)) → (i, at) ≡ get_or (enumerate_from 0 (places_at b k 0)) j (i, at) → (i < k) × (at ≡ start_of b i)
  unfolding start_of
  numbered_turn k i at j h e =
      let l = numbered_length k 0 in
      let q : (i, at) ≡ (0 + j, start_of b (0 + j)) = e ∙ numbered_at k 0 j (i, at) (omega arith) in
      let n : i ≡ j = ap (λ (p : ℕ × ℕ). p.0) q ∙ zero-add j in
      (omega arith, ap (λ (p : ℕ × ℕ). p.1) q ∙ ap (start_of b) (zero-add j ∙ sym n))

  pub first_whole : (k : ℕ) → start_of b k ≤ length b → end_at b k 0 ≤ length b
  unfolding start_of
  first_whole k h = omega (arith, ends_start b k 0, ap (start_of b) (zero-add k))
