-- Tests: one that is known, both, neither, all of a list or one that fails, and which of two numbers is the smaller. Assumes nothing.
use mathlib.Core.Path.{◌≡◌, refl}
use mathlib.Core.Bool.{Bool, true, false, ◌&&◌, ◌||◌, true≢false, false≢true, and-false}
use mathlib.Core.Logic.{◌⊎◌, inl, inr}
use mathlib.Core.List.{List, [], ◌∷◌}
use Prim.Native.Nat.{ℕ, zero, suc, ◌≤◌, ◌<◌}
use native.Mathlib.Omega.{arith}
use native.Mathlib.Decide.{dec_le}
use lib.ListN.{get_or}
use Rattle.rules.specs.Tests.{every}

pub known : (b : Bool) → (b ≡ true) ⊎ (b ≡ false)
known true = inl refl
known false = inr refl

pub untrue : (b : Bool) → (b ≡ true → ⊥) → b ≡ false
untrue true n = absurd (n refl)
untrue false n = refl

pub le_or_lt : (m n : ℕ) → (m ≤ n) ⊎ (n < m)
le_or_lt m n = elim (dec_le m n) [ yes h ↦ inl h | no h ↦ inr (omega arith) ]

pub and_both : (a b : Bool) → (a && b) ≡ true → (a ≡ true) × (b ≡ true)
and_both true b e = (refl, e)
and_both false b e = absurd (false≢true e)

-- the second of two that do not hold both, where the first does
pub and_rest : (a b : Bool) → (a && b) ≡ false → a ≡ true → b ≡ false
and_rest true b e f = e
and_rest false b e f = absurd (false≢true f)

pub or_neither : (a b : Bool) → (a || b) ≡ false → (a ≡ false) × (b ≡ false)
or_neither true b e = absurd (true≢false e)
or_neither false b e = (refl, e)

abbrev pub Holds : List Bool → Type 0
Holds [] = Unit {0}
Holds (t ∷ ts) = (t ≡ true) × Holds ts

pub pass : (ts : List Bool) → Holds ts → every ts ≡ true
unfolding every
pass [] h = refl
pass (t ∷ ts) h = rw (h.0, pass ts h.1)

pub passed : (ts : List Bool) → every ts ≡ true → Holds ts
unfolding every
passed [] h = tt
passed (true ∷ ts) h = (refl, passed ts h)
passed (false ∷ ts) h = absurd (false≢true h)

-- one that fails, wherever it stands among the others
pub fails : (k : ℕ) (ts : List Bool) → get_or ts k true ≡ false → every ts ≡ false
unfolding every
fails zero [] e = e
fails (suc k) [] e = e
fails zero (t ∷ ts) e = rw e
fails (suc k) (t ∷ ts) e = rw (fails k ts e, and-false)
