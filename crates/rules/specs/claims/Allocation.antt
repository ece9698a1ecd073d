-- Demand 3 of one allocation, said without the search: for every set of held indexes and every counter.
use Rattle.std.specs.Prelude.{ℕ, ◌+◌, ◌%◌, ◌≤◌, ◌<◌, Bool, true, false, ◌↔◌, ◌⊎◌, ◌≡◌, length, None, Some}
use Rattle.rules.specs.Round.{allocate}

module _ (held : ℕ → Bool) (counter : ℕ) where
  -- the count is the length of the visited list (R82)
  abbrev pub count_of : ℕ
  count_of = length (allocate held counter).visits

  -- index k stands d steps from the counter, can be handed out, and none before it can; d + 1 indexes are visited (R80 to R82)
  pub record FirstFree (k d : ℕ) : Type 0 where
    pub near : d < 256
    pub place : k ≡ (counter + d) % 256
    pub least : 1 ≤ k
    pub most : k ≤ 255
    pub empty : held k ≡ false
    pub before : (e : ℕ) → e < d → ((counter + e) % 256 ≡ 0) ⊎ (held ((counter + e) % 256) ≡ true)
    pub counted : count_of ≡ d + 1

  -- the first free index going round from the counter (R81); FULL exactly if 1 to 255 are held (R84), with count 257 (R82); the counter moves by the count (R83)
  pub record Exact : Type 0 where
    pub handed_out : (k : ℕ) → ((allocate held counter).found ≡ Some k) ↔ ((d : ℕ) × FirstFree k d)
    pub refused : ((allocate held counter).found ≡ None) ↔ ((j : ℕ) → 1 ≤ j → j ≤ 255 → held j ≡ true)
    pub refused_count : (allocate held counter).found ≡ None → count_of ≡ 257
    pub moved : (allocate held counter).counter ≡ (counter + count_of) % 256

-- of every set of held indexes and every counter, a byte
abbrev pub EveryAllocation : Type 0
EveryAllocation = (held : ℕ → Bool) (counter : ℕ) → counter < 256 → Exact held counter
