-- Of every set of held indexes and every counter, one allocation is what demand 3 says. Assumes nothing.
use mathlib.Core.Path.{◌≡◌, refl, sym, ap, ◌∙◌}
use mathlib.Core.Bool.{Bool, true, false, not, true≢false}
use mathlib.Core.Logic.{◌⊎◌, inl, inr, ⊎_elim}
use Rattle.std.specs.Prelude.{Option, None, Some}
use Prim.Native.Nat.{ℕ, ◌+◌, ◌-◌, ◌%◌, ◌≤◌, ◌<◌}
use native.Mathlib.Omega.{arith}
use native.Mathlib.Nat.{eq-zero-or-pos}
use lib.Dec.{eqb}
use borrow.Author.Tests.{eq-eqb, ne_eqb, eqb-false, not-true}
use Rattle.rules.specs.Round.{until_twice, free_of, allocate}
use Rattle.rules.specs.Instance.{Instance, held_in, counter_of}
use Rattle.rules.specs.Mount.{allocation}
use Rattle.rules.specs.claims.Allocation.{FirstFree, EveryAllocation}
use Rattle.rules.proofs.Tests.{known, le_or_lt, and_both}
use Rattle.rules.proofs.Round.{meets, finds_none, found_free, spent, FoundAt, found_at, at_found}

module _ (held : ℕ → Bool) where
  -- a free index is not 0 and not held
  free_is : (k : ℕ) → free_of held k ≡ true → (0 < k) × (held k ≡ false)
  free_is k e =
      let b = and_both (not (eqb k 0)) (not (held k)) e in
      let z = eqb-false k 0 (not-true (eqb k 0) b.0) in
      (⊎_elim (λ (w : k ≡ 0). absurd (z w)) (λ (p : 0 < k). p) (eq-zero-or-pos k), not-true (held k) b.1)

  is_free : (k : ℕ) → 0 < k → held k ≡ false → free_of held k ≡ true
  is_free k p e = rw (ne_eqb k 0 (λ z. omega arith), e)

  -- one that is not free is 0 or held
  pub not_free : (k : ℕ) → free_of held k ≡ false → (k ≡ 0) ⊎ (held k ≡ true)
  not_free k e =
      ⊎_elim (λ (z : k ≡ 0). inl z)
      (λ (p : 0 < k). ⊎_elim (λ (t : held k ≡ true). inr t) (λ (f : held k ≡ false). absurd (true≢false (sym (is_free k p f) ∙ e))) (known (held k)))
      (eq-zero-or-pos k)

  zero_held : (k : ℕ) → (k ≡ 0) ⊎ (held k ≡ true) → free_of held k ≡ false
  zero_held k (inl z) = rw (eq-eqb k 0 z)
  zero_held k (inr t) = ⊎_elim (λ (z : k ≡ 0). rw (eq-eqb k 0 z)) (λ (p : 0 < k). rw (t, ne_eqb k 0 (λ z. omega arith))) (eq-zero-or-pos k)

module _ (held : ℕ → Bool) (c : ℕ) (h : c < 256) where
  taken_first : (k : ℕ) → (d : ℕ) × FirstFree held c k d → (allocate held c).found ≡ Some k
  unfolding allocate until_twice
  taken_first k (d, a) =
      let f : free_of held ((c + d) % 256) ≡ true = ap (free_of held) (sym a.place) ∙ is_free held k a.least a.empty in
      at_found (free_of held) 257 c d h (omega (arith, a.near)) f (λ j l. zero_held held ((c + j) % 256) (a.before j l)) ∙ ap {B = Option ℕ} Some (sym a.place)

  none_found : ((j : ℕ) → 1 ≤ j → j ≤ 255 → held j ≡ true) → (allocate held c).found ≡ None
  unfolding allocate until_twice
  none_found all =
      finds_none (free_of held) 257 c h
      (λ j l. zero_held held j (⊎_elim (λ (z : j ≡ 0). inl z) (λ (p : 0 < j). inr (all j p (omega arith))) (eq-zero-or-pos j)))

  handed_out : (k : ℕ) → (allocate held c).found ≡ Some k → (d : ℕ) × FirstFree held c k d
  unfolding allocate until_twice
  handed_out k e = go (found_at (free_of held) 257 c k h e)
    where
      go : (d : ℕ) × FoundAt (free_of held) 257 c k d → (d : ℕ) × FirstFree held c k d
      go (d, a) =
          let f = free_is held k a.is_free in
          let near : d < 256 =
          ⊎_elim (λ (z : 256 ≤ d).
          let s : k ≡ (c + 0) % 256 = omega (arith, a.within, a.place) in
          absurd (true≢false (sym a.is_free ∙ (ap (free_of held) s ∙ a.before 0 (omega arith)))))
          (λ (l : d < 256). l) (le_or_lt 256 d) in (
            d,
            record {
              near = near;
              place = a.place;
              least = f.0;
              most = omega (arith, a.place);
              empty = f.1;
              before = λ j l. not_free held ((c + j) % 256) (a.before j l);
              counted = a.counted;
            },
          )

  all_held : (allocate held c).found ≡ None → (j : ℕ) → 1 ≤ j → j ≤ 255 → held j ≡ true
  unfolding allocate until_twice
  all_held e j p q =
      let d = (j + 256 - c) % 256 in
      let m = meets (free_of held) 257 c d h (omega (arith, spent (free_of held) 257 c e)) in
      let same : (c + d) % 256 ≡ j = omega arith in
      ⊎_elim (λ (f : free_of held ((c + d) % 256) ≡ false).
      ⊎_elim (λ (z : (c + d) % 256 ≡ 0). absurd (omega arith)) (λ (t : held ((c + d) % 256) ≡ true). rw same at t) (not_free held ((c + d) % 256) f))
      (λ f. let z : ◌≡◌ {A = ℕ} 0 1 = cc in absurd (omega arith)) m.1

-- what is handed out was not held, from whatever counter
pub not_held : (held : ℕ → Bool) (c k : ℕ) → (allocate held c).found ≡ Some k → held k ≡ false
unfolding allocate
not_held held c k e = (free_is held k (found_free (free_of held) (until_twice c) k e)).1

-- the theorem
pub exact : EveryAllocation
unfolding allocate until_twice
exact held c h = record {
  handed_out = λ k. (handed_out held c h k, taken_first held c h k);
  refused = (all_held held c h, none_found held c h);
  refused_count = λ e. spent (free_of held) 257 c e;
  moved = refl;
}

-- what a mount finds is an index from 1 to 255
pub found_bounds : (i : Instance) → counter_of i < 256 → (k : ℕ) → (allocation i).found ≡ Some k → (1 ≤ k) × (k ≤ 255)
unfolding allocation
found_bounds i h k e = let f = (handed_out (held_in i) (counter_of i) h k e).1 in (f.least, f.most)
