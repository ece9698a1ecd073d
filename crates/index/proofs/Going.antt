-- A search that is under way: `count` indexes are visited from `start` on, none of them free, and `next` is the one to be visited now.
-- What is to be found from the start is what is to be found from `next` on.
-- Assumes nothing.
use Rattle.std.proofs.Common.{◌≡◌, ℕ, suc, ◌+◌, ◌-◌, ◌%◌, ◌<◌, ◌≤◌, Bool, true, false, length, refl, ap, ◌∙◌, ⊎_elim, eq-zero-or-pos, eq-or-lt_of_le, arith}
use Rattle.std.specs.Prelude.{None, Some}
use Rattle.rules.specs.Round.{after, going_round, until_twice, visited, first_free, free_of, allocate}
use Rattle.index.specs.Search.{search_told}

pub record Going (free : ℕ → Bool) (start count next : ℕ) : Type 0 where
  pub low : start < 256
  pub place : next ≡ (start + count) % 256
  pub few : count ≤ 256
  pub passed : 0 < count → free start ≡ false
  pub finds : first_free free (until_twice start) ≡ first_free free (going_round (257 - count) next)
  pub visits : length (visited free (until_twice start)) ≡ count + length (visited free (going_round (257 - count) next))

pub begins : (free : ℕ → Bool) (start : ℕ) → start < 256 → Going free start 0 start
unfolding until_twice
begins free start h = record {
  low = h;
  place = omega arith;
  few = omega arith;
  passed = λ p. absurd (omega arith);
  finds = refl;
  visits = omega arith;
}

module _ (free : ℕ → Bool) (start count next : ℕ) (g : Going free start count next) where
  -- there is one more index to be met
  left : 257 - count ≡ suc (256 - count)
  left = omega arith

  fewer : 257 - (count + 1) ≡ 256 - count
  fewer = omega arith

  -- one that is not free is passed
  pub passes : free next ≡ false → (next ≡ start → count ≡ 0) → Going free start (count + 1) (after next)
  unfolding going_round visited first_free
  passes e first = record {
    low = g.low;
    place = omega arith;
    few = more;
    passed = λ p. start_passed;
    finds = g.finds ∙ rw (left, e, fewer);
    visits = g.visits ∙ rw (left, e, fewer) (omega arith);
  }
    where
      more : count + 1 ≤ 256
      more = ⊎_elim (λ h. absurd (omega (arith, first (omega arith)))) (λ h. omega arith) (eq-or-lt_of_le g.few)

      start_passed : free start ≡ false
      start_passed = ⊎_elim (λ h. ap free (omega arith) ∙ e) (λ h. g.passed h) (eq-zero-or-pos count)

  -- one that is free is found
  found_here : free next ≡ true → first_free free (until_twice start) ≡ Some next
  unfolding going_round first_free
  found_here e = g.finds ∙ rw (left, e)

  counted_here : free next ≡ true → length (visited free (until_twice start)) ≡ count + 1
  unfolding going_round visited
  counted_here e = g.visits ∙ rw (left, e)

  -- where the start is met again, it is the last to be met, and none is free
  last_left : next ≡ start → 0 < count → 257 - count ≡ 1
  last_left e p = omega arith

  none_left : next ≡ start → 0 < count → first_free free (until_twice start) ≡ None
  unfolding going_round first_free
  none_left e p = g.finds ∙ rw (last_left e p, e, g.passed p)

  all_counted : next ≡ start → 0 < count → length (visited free (until_twice start)) ≡ count + 1
  unfolding going_round visited
  all_counted e p = g.visits ∙ rw (last_left e p, e, g.passed p)

-- what the code has in hand at the end of a search is what the rule says
module _ (held : ℕ → Bool) (start count next : ℕ) (g : Going (free_of held) start count next) where
  moved : (start + (count + 1)) % 256 ≡ (next + 1) % 256
  moved = omega arith

  pub ends_found : free_of held next ≡ true → (last : ℕ) → last ≡ (next + 1) % 256 → record { answer = Some next; count = count + 1; next_super = last } ≡ search_told (allocate held start)
  unfolding search_told allocate
  ends_found e last l = rw (l, found_here _ _ _ _ g e, counted_here _ _ _ _ g e, moved)

  pub ends_full : next ≡ start → 0 < count → (last : ℕ) → last ≡ (next + 1) % 256 → record { answer = None; count = count + 1; next_super = last } ≡ search_told (allocate held start)
  unfolding search_told allocate
  ends_full e p last l = rw (l, none_left _ _ _ _ g e p, all_counted _ _ _ _ g e p, moved)
