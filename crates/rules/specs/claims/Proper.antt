-- Which saved bytes are accepted, said without the tests: those that are written for a proper state. What is proper is said of records by their places in the list.
use Rattle.std.specs.Prelude.{ℕ, zero, suc, ◌^◌, ◌≤◌, ◌<◌, true, ◌↔◌, ◌⊎◌, List, [], ◌∷◌, ◌≡◌, length}
use Rattle.rules.specs.Numbers.{BADSAVE}
use Rattle.rules.specs.Bytes.{Bytes}
use Rattle.rules.specs.claims.Sequences.{Text}
use Rattle.rules.specs.Instance.{Instance}
use Rattle.rules.specs.Saved.{SavedNode, State, encode, valid, accepted}
use Rattle.rules.specs.StateRestore.{saved_state, fresh, restore_state_rule}
use Rattle.rules.specs.claims.RoundTrip.{Fits}
use Rattle.rules.specs.claims.Driven.{Driven}

-- the element e stands at the place k of the list, counted from 0
unfoldable pub At : {A : Type 0} → List A → ℕ → A → Type 0
At [] k e = ⊥
At (d ∷ ds) zero e = d ≡ e
At (d ∷ ds) (suc k) e = At ds k e

-- 1 to 255 bytes of UTF-8, 47 (`/`) at no place, and neither 46 (`.`) alone nor twice 46 (R10, R35, R129 j)
pub record Name (p : List ℕ) : Type 0 where
  pub not_empty : 1 ≤ length p
  pub short : length p ≤ 255
  pub text : Text p
  pub no_slash : (k : ℕ) → At p k 47 → ⊥
  pub no_dot : p ≡ 46 ∷ [] → ⊥
  pub no_dots : p ≡ 46 ∷ 46 ∷ [] → ⊥

-- what is asked of a state, all but the parents (R129 g, h, j, k)
pub record Tidy (s : State) : Type 0 where
  -- the next number is from 2 to 2^56 (R129 h)
  pub least_next : 2 ≤ s.next
  pub most_next : s.next ≤ 2 ^ 56
  -- each number is from 2 up (g) and below the next one (h); of two records the later has the larger (g)
  pub least : (k : ℕ) (e : SavedNode) → At s.nodes k e → 2 ≤ e.number
  pub under : (k : ℕ) (e : SavedNode) → At s.nodes k e → e.number < s.next
  pub rises : (j k : ℕ) (d e : SavedNode) → j < k → At s.nodes j d → At s.nodes k e → d.number < e.number
  -- each has a name (j); no two have the same parent and the same name (k)
  pub named : (k : ℕ) (e : SavedNode) → At s.nodes k e → Name e.name
  pub apart : (j k : ℕ) (d e : SavedNode) → j < k → At s.nodes j d → At s.nodes k e → d.parent ≡ e.parent → d.name ≡ e.name → ⊥

-- a record before the place k has the number x (R129 i)
abbrev pub Earlier : List SavedNode → ℕ → ℕ → Type 0
Earlier es k x = (j : ℕ) × (d : SavedNode) × (j < k) × At es j d × (d.number ≡ x)

-- tidy, and each parent is 1 or the number of an earlier record (R129 i)
pub record Proper (s : State) : Type 0 where
  pub tidy : Tidy s
  pub parents : (k : ℕ) (e : SavedNode) → At s.nodes k e → (e.parent ≡ 1) ⊎ Earlier s.nodes k e.parent

-- the valid states are the proper ones (R129 g to k)
abbrev pub EveryValid : Type 0
EveryValid = (s : State) → (valid s ≡ true) ↔ Proper s

-- the bytes are what is written for the state, its fields fit their widths, and it is proper (R119 to R123, R129)
pub record Spells (b : List ℕ) (s : State) : Type 0 where
  pub bytes : b ≡ encode s
  pub fits : Fits s
  pub proper : Proper s

-- bytes are accepted exactly if they spell a state (R129 a to k, R136)
abbrev pub EveryAccepted : Type 0
EveryAccepted = (b : List ℕ) → Bytes b → (accepted b ≡ true) ↔ ((s : State) × Spells b s)

-- a fresh instance answers BADSAVE exactly if they spell none (R128, R129)
abbrev pub EveryBadSave : Type 0
EveryBadSave = (i : Instance) (b : List ℕ) → fresh i ≡ true → Bytes b → ((restore_state_rule i b).code ≡ BADSAVE) ↔ ((s : State) → Spells b s → ⊥)

-- what a driven instance saves is tidy; a parent can be gone (R10, R45, R48, R49, R67, R102)
abbrev pub EveryTidy : Type 0
EveryTidy = (i : Instance) → Driven i → Tidy (saved_state i)
