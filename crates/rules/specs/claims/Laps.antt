-- Demand 3 of any allocator: steps one after another, each from the counter that the last one left, over any sets of held indexes.
use Rattle.std.specs.Prelude.{ℕ, ◌+◌, ◌%◌, ◌<◌, Bool, true, ◌≡◌, ◌⊎◌, List, [], ◌∷◌, ◌++◌, length, Option, None, Some}
use Rattle.rules.specs.Round.{allocate}

-- what a step finds held, what it visits, and what it hands out (R81, R82, R85, R86)
pub record SearchStep : Type 0 where
  pub held : ℕ → Bool
  pub visits : List ℕ
  pub found : Option ℕ

-- it visits nothing and hands nothing out
abbrev pub Idle : SearchStep → Type 0
Idle s = (s.visits ≡ []) × (s.found ≡ None)

-- it is the search from the counter c (R80 to R82)
abbrev pub Searches : ℕ → SearchStep → Type 0
Searches c s = (s.visits ≡ (allocate s.held c).visits) × (s.found ≡ (allocate s.held c).found)

-- steps from the counter c on: an idle one leaves it, a search moves it (R83, R89)
unfoldable pub Going : ℕ → List SearchStep → Type 0
Going c [] = Unit {0}
Going c (s ∷ ss) = (Idle s × Going c ss) ⊎ (Searches c s × Going (allocate s.held c).counter ss)

-- the visited lists of the steps, one after another (R87)
unfoldable pub visits_of : List SearchStep → List ℕ
visits_of [] = []
visits_of (s ∷ ss) = s.visits ++ visits_of ss

-- the sum of their counts (R82, R87)
unfoldable pub total : List SearchStep → ℕ
total [] = 0
total (s ∷ ss) = length s.visits + total ss

-- what the last of them handed out; x where there is none (R85)
unfoldable pub last_found : Option ℕ → List SearchStep → Option ℕ
last_found x [] = x
last_found x (s ∷ ss) = last_found s.found ss

-- the index stands in the list
abbrev pub Has : ℕ → List ℕ → Type 0
Has j [] = ⊥
Has j (i ∷ is) = (i ≡ j) ⊎ Has j is

-- a step handed j out, or visited it while it was held (R85, R86)
abbrev pub Meets : ℕ → SearchStep → Type 0
Meets j s = (s.found ≡ Some j) ⊎ (Has j s.visits × (s.held j ≡ true))

-- one of the steps did (R88)
unfoldable pub Met : ℕ → List SearchStep → Type 0
Met j [] = ⊥
Met j (s ∷ ss) = Meets j s ⊎ Met j ss

-- of steps up to one that hands out again what was handed out just before them: the sum of their counts (R87), and every other index (R88)
pub record LapsBy (sum : ℕ) (ss : List SearchStep) : Type 0 where
  pub positive : 0 < sum
  pub whole : sum % 256 ≡ 0
  pub fair : (j : ℕ) → 0 < j → j < 256 → Met j ss

-- by the lengths of their visited lists
abbrev pub Laps : List SearchStep → Type 0
Laps ss = LapsBy (total ss) ss

-- a search handed k out, and the last of the steps after it hands k out again (R87, R88)
abbrev pub EveryAllocator : Type 0
EveryAllocator = (c : ℕ) → c < 256 → (s : SearchStep) (k : ℕ) → Searches c s → s.found ≡ Some k
    → (ss : List SearchStep) → Going (allocate s.held c).counter ss → last_found None ss ≡ Some k → Laps ss
