-- The first place where a test holds: passed over where it fails, found where it holds. Assumes nothing.
use mathlib.Core.Path.{◌≡◌, refl, sym, ap, ◌∙◌}
use mathlib.Core.Bool.{Bool, true, false, cond, ◌||◌, or-true, or-false, or_assoc}
use mathlib.Core.List.{List}
use Prim.Native.Nat.{ℕ, zero, suc, ◌+◌, ◌-◌, ◌*◌, ◌≤◌, ◌<◌}
use native.Mathlib.Nat.{zero-add}
use native.Mathlib.Omega.{arith}
use borrow.Author.Tests.{eq-eqb, ne_eqb}
use lib.Bits.{bit_and}
use Rattle.std.specs.Prelude.{Option, None, Some}
use Rattle.std.specs.Option.{option_or}
use Rattle.std.proofs.lemmas.Option.{none-some, same_Some}
use Rattle.rules.proofs.Tests.{or_neither}
use Rattle.le.specs.Mem.{get}
use Rattle.scan.specs.First.{cell_is, any_of, first_place}

-- ---- one cell

module _ (mem : List ℕ) (at mask x i v : ℕ) (e : v ≡ get 8 mem (at + 8 * i)) where
  pub cell_here : bit_and v mask ≡ x → cell_is mem at mask x i ≡ true
  unfolding cell_is
  cell_here h = eq-eqb (bit_and (get 8 mem (at + 8 * i)) mask) x (ap (λ (w : ℕ). bit_and w mask) (sym e) ∙ h)

  pub cell_other : (bit_and v mask ≡ x → ⊥) → cell_is mem at mask x i ≡ false
  unfolding cell_is
  cell_other h = ne_eqb (bit_and (get 8 mem (at + 8 * i)) mask) x (λ q. h (ap (λ (w : ℕ). bit_and w mask) e ∙ q))

-- ---- the mask by another name

pub by_mask : (mem : List ℕ) (at mask all x i k : ℕ) → mask ≡ all → first_place (cell_is mem at all x) i k ≡ first_place (cell_is mem at mask x) i k
by_mask mem at mask all x i k e = rw e

-- ---- eight together

-- of k cells, whether one was hit
abbrev pub Hit : (ℕ → Bool) → ℕ → ℕ → Bool → Type 0
Hit f i k hit = (k ≤ 8) × (hit ≡ any_of f i k)

module _ (f : ℕ → Bool) (i : ℕ) where
  pub none_hit : Hit f i 0 false
  unfolding any_of
  none_hit = (omega arith, refl)

  pub one_hit : (k : ℕ) (hit : Bool) → Hit f i k hit → k < 8 → f (i + k) ≡ true → Hit f i (k + 1) true
  unfolding any_of
  one_hit k hit h l e = let z : k + 1 ≡ suc k = omega arith in (omega arith, go (any_of f i k) e ∙ sym (ap (any_of f i) z))
    where
      go : (b : Bool) → f (i + k) ≡ true → true ≡ (b || f (i + k))
      go true q = refl
      go false q = sym q

  pub not_hit : (k : ℕ) (hit : Bool) → Hit f i k hit → k < 8 → f (i + k) ≡ false → Hit f i (k + 1) hit
  unfolding any_of
  not_hit k hit h l e = let z : k + 1 ≡ suc k = omega arith in (omega arith, h.1 ∙ go (any_of f i k) e ∙ sym (ap (any_of f i) z))
    where
      go : (b : Bool) → f (i + k) ≡ false → b ≡ (b || f (i + k))
      go true q = refl
      go false q = sym q

  pub all_looked : (k : ℕ) (hit : Bool) → Hit f i k hit → 8 ≤ k → hit ≡ any_of f i 8
  all_looked k hit h l = let e : k ≡ 8 = omega (arith, h.0) in h.1 ∙ ap (any_of f i) e

-- ---- the first

-- j places and then k: the first of them, or else the first of these
pub first_add : (f : ℕ → Bool) (i j k : ℕ) → first_place f i (j + k) ≡ option_or (first_place f i j) (first_place f (i + j) k)
unfolding first_place
first_add f i zero k = let z : zero + k ≡ k = omega arith in let y : i + zero ≡ i = omega arith in rw (z, y)
first_add f i (suc j) k =
    let z : suc j + k ≡ suc (j + k) = omega arith in
    let y : i + 1 + j ≡ i + suc j = omega arith in
    ap (first_place f i) z ∙ go (f i) _ _ _ (first_add f (i + 1) j k ∙ ap (λ (m : ℕ). option_or (first_place f (i + 1) j) (first_place f m k)) y)
  where
    go : (b : Bool) (o p q : Option ℕ) → o ≡ option_or p q → cond b (Some i) o ≡ option_or (cond b (Some i) p) q
    go true o p q e = refl
    go false o p q e = e

-- where none was hit there is no first
pub none_first : (f : ℕ → Bool) (i k : ℕ) → any_of f i k ≡ false → first_place f i k ≡ None
unfolding any_of first_place
none_first f i zero e = refl
none_first f i (suc k) e =
    let n = or_neither (any_of f i k) (f (i + k)) e in
    let z : suc k ≡ k + 1 = omega arith in
    ap (first_place f i) z ∙ first_add f i k 1 ∙ rw (none_first f i k n.0, n.1)

-- the first from `from` on is the first from i on
abbrev pub Left : (ℕ → Bool) → ℕ → ℕ → ℕ → Type 0
Left f from n i = (i ≤ n) × (first_place f from (n - from) ≡ first_place f i (n - i))

module _ (f : ℕ → Bool) (from n : ℕ) where
  pub all_left : from ≤ n → Left f from n from
  all_left h = (h, refl)

  pub here_left : (i : ℕ) → Left f from n i → i < n → f i ≡ true → Some i ≡ first_place f from (n - from)
  unfolding first_place
  here_left i l h e = let z : n - i ≡ suc (n - (i + 1)) = omega arith in sym (l.1 ∙ ap (first_place f i) z ∙ rw e)

  -- k places without a hit are passed over
  pub passed_left : (i k : ℕ) → Left f from n i → k ≤ n - i → first_place f i k ≡ None → Left f from n (i + k)
  passed_left i k l h e =
      let z : n - i ≡ k + (n - (i + k)) = omega arith in
      (omega (arith, l.0), l.1 ∙ ap (first_place f i) z ∙ first_add f i k (n - (i + k)) ∙ rw e)

  pub on_left : (i : ℕ) → Left f from n i → i < n → f i ≡ false → Left f from n (i + 1)
  unfolding first_place
  on_left i l h e = passed_left i 1 l (omega arith) (rw e)

  pub done_left : (i : ℕ) → Left f from n i → n ≤ i → None ≡ first_place f from (n - from)
  unfolding first_place
  done_left i l h = let z : n - i ≡ zero = omega arith in sym (l.1 ∙ ap (first_place f i) z)

  pub eight_left : (i : ℕ) → Left f from n i → 8 ≤ n - i → any_of f i 8 ≡ false → Left f from n (i + 8)
  eight_left i l h e = passed_left i 8 l h (none_first f i 8 e)

-- of the places before n, those before m come first
module _ (f : ℕ → Bool) (from m n : ℕ) (h : from ≤ m) (l : m ≤ n) where
  parts : first_place f from (n - from) ≡ option_or (first_place f from (m - from)) (first_place f m (n - m))
  parts =
      let z : n - from ≡ (m - from) + (n - m) = omega arith in
      let y : from + (m - from) ≡ m = omega arith in
      ap (first_place f from) z ∙ first_add f from (m - from) (n - m) ∙ ap (λ (j : ℕ). option_or (first_place f from (m - from)) (first_place f j (n - m))) y

  pub part_found : (i : ℕ) → Some i ≡ first_place f from (m - from) → Some i ≡ first_place f from (n - from)
  part_found i e = sym (parts ∙ rw (← e))

  pub part_none : None ≡ first_place f from (m - from) → first_place f m (n - m) ≡ first_place f from (n - from)
  part_none e = sym (parts ∙ rw (← e))

-- ---- for callers

-- what is found is one of the places, and the test holds there
pub found_holds : (f : ℕ → Bool) (i k r : ℕ) → first_place f i k ≡ Some r → (i ≤ r) × (r < i + k) × (f r ≡ true)
unfolding first_place
found_holds f i zero r e = absurd (none-some r e)
found_holds f i (suc k) r e = go (f i) refl e (found_holds f (i + 1) k r)
  where
    go : (b : Bool) → f i ≡ b → cond b (Some i) (first_place f (i + 1) k) ≡ Some r → (first_place f (i + 1) k ≡ Some r → (i + 1 ≤ r) × (r < i + 1 + k) × (f r ≡ true))
        → (i ≤ r) × (r < i + suc k) × (f r ≡ true)
    go true t e h = let q = same_Some i r e in (omega (arith, q), omega (arith, q), ap f (sym q) ∙ t)
    go false t e h = let g = h e in (omega (arith, g.0), omega (arith, g.1), g.2)

-- what holds at i, and holds one further on wherever the test fails, holds at the place found, or behind all where there is none
module _ (f : ℕ → Bool) (P : ℕ → Type 0) where
  pub found_passes : (i k r : ℕ) → first_place f i k ≡ Some r → ((j : ℕ) → j < i + k → f j ≡ false → P j → P (j + 1)) → P i → P r
  unfolding first_place
  found_passes i zero r e on p = absurd (none-some r e)
  found_passes i (suc k) r e on p = go (f i) refl e (λ h q. found_passes (i + 1) k r h (λ j l. on j (omega arith)) q)
    where
      go : (b : Bool) → f i ≡ b → cond b (Some i) (first_place f (i + 1) k) ≡ Some r → (first_place f (i + 1) k ≡ Some r → P (i + 1) → P r) → P r
      go true t e h = rw (← same_Some i r e) p
      go false t e h = h e (on i (omega arith) t p)

  pub none_passes : (i k : ℕ) → first_place f i k ≡ None → ((j : ℕ) → j < i + k → f j ≡ false → P j → P (j + 1)) → P i → P (i + k)
  unfolding first_place
  none_passes i zero e on p = let z : i + zero ≡ i = omega arith in rw z p
  none_passes i (suc k) e on p = go (f i) refl e (λ h q. none_passes (i + 1) k h (λ j l. on j (omega arith)) q)
    where
      go : (b : Bool) → f i ≡ b → cond b (Some i) (first_place f (i + 1) k) ≡ None → (first_place f (i + 1) k ≡ None → P (i + 1) → P (i + 1 + k)) → P (i + suc k)
      go true t e h = absurd (none-some i (sym e))
      go false t e h = let z : i + suc k ≡ i + 1 + k = omega arith in rw z (h e (on i (omega arith) t p))

-- ---- one of many

module _ (f : ℕ → Bool) where
  -- j places and then k places
  pub any_add : (i j k : ℕ) → any_of f i (j + k) ≡ (any_of f i j || any_of f (i + j) k)
  unfolding any_of
  any_add i j zero = let z : j + zero ≡ j = omega arith in ap (any_of f i) z ∙ sym (or-false (any_of f i j))
  any_add i j (suc k) =
      let z : j + suc k ≡ suc (j + k) = omega arith in
      let y : i + (j + k) ≡ i + j + k = omega arith in
      ap (any_of f i) z ∙ ap (λ (b : Bool). b || f (i + (j + k))) (any_add i j k)
      ∙ ap (λ (m : ℕ). (any_of f i j || any_of f (i + j) k) || f m) y
      ∙ or_assoc (any_of f i j) (any_of f (i + j) k) (f (i + j + k))

  -- what is hit in a part is hit in the whole
  pub any_part : (i k n : ℕ) → i + k ≤ n → any_of f i k ≡ true → any_of f 0 n ≡ true
  any_part i k n h e =
      let z : n ≡ i + (k + (n - (i + k))) = omega arith in
      ap (any_of f 0) z ∙ any_add 0 i (k + (n - (i + k))) ∙ rw zero-add (rw (any_add i k (n - (i + k)), e) (or-true (any_of f 0 i)))

  -- the last k places decide, where those before i are known, and i reaches them
  pub any_last : (i k n : ℕ) → any_of f 0 i ≡ false → k ≤ n → n - k ≤ i → any_of f (n - k) k ≡ any_of f 0 n
  any_last i k n e h l =
      let z : n ≡ n - k + k = omega arith in
      let y : i ≡ n - k + (i - (n - k)) = omega arith in
      let b = or_neither (any_of f 0 (n - k)) (any_of f (0 + (n - k)) (i - (n - k))) (sym (any_add 0 (n - k) (i - (n - k))) ∙ sym (ap (any_of f 0) y) ∙ e) in
      sym (ap (any_of f 0) z ∙ any_add 0 (n - k) k ∙ rw zero-add (rw b.0 refl))

  pub any_more : (i k : ℕ) → any_of f 0 i ≡ false → any_of f i k ≡ false → any_of f 0 (i + k) ≡ false
  any_more i k e h = any_add 0 i k ∙ rw zero-add (rw (e, h) refl)
