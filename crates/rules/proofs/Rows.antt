-- Ordered rows of tests: what holds of each row holds of the first that applies, and tests that settle a number decide it. Assumes nothing.
use mathlib.Core.Path.{◌≡◌, refl, sym, ◌∙◌}
use mathlib.Core.Bool.{Bool, true, false, cond, ◌||◌, true≢false, false≢true}
use mathlib.Core.Logic.{inl, inr, ⊎_elim}
use mathlib.Core.List.{List, [], ◌∷◌}
use Prim.Native.Nat.{ℕ}
use Rattle.rules.specs.Outcome.{Row, ◌⟹◌, first_of}
use Rattle.rules.specs.claims.Exactly.{Test, ◌⟼◌, FirstIs, Decides}

-- each row holds where its test does and those before it do not, and so does the last resort
abbrev pub Rows : {A : Type 0} → (A → Type 0) → List (Row A) → A → Type 0
Rows P [] o = P o
Rows P (r ∷ rs) o = (r.applies ≡ true → P r.gives) × (r.applies ≡ false → Rows P rs o)

pub first_of_lem : {A : Type 0} (P : A → Type 0) (rs : List (Row A)) (o : A) → Rows P rs o → P (first_of rs o)
unfolding first_of
first_of_lem P [] o h = h
first_of_lem {A} P (r ∷ rs) o h = go r.applies refl (λ (e : r.applies ≡ false). first_of_lem P rs o (h.1 e))
  where
    go : (b : Bool) → r.applies ≡ b → (r.applies ≡ false → P (first_of rs o)) → P (cond b r.gives (first_of rs o))
    go true e k = h.0 e
    go false e k = k e

-- each row holds, whatever the tests say
abbrev pub Each : {A : Type 0} → (A → Type 0) → List (Row A) → A → Type 0
Each P [] o = P o
Each P (r ∷ rs) o = P r.gives × Each P rs o

pub each_of : {A : Type 0} (P : A → Type 0) (rs : List (Row A)) (o : A) → Each P rs o → P (first_of rs o)
each_of P rs o h = first_of_lem P rs o (all rs h)
  where
    all : (qs : List (Row _)) → Each P qs o → Rows P qs o
    all [] k = k
    all (q ∷ qs) k = (λ e. k.0, λ e. all qs k.1)

pub either : {A : Type 0} (P : A → Type 0) (b : Bool) {o q : A} → (b ≡ true → P o) → (b ≡ false → P q) → P (cond b o q)
either P true h l = h refl
either P false h l = l refl

-- ---- a number settled by tests

unfoldable pub Settles : ℕ → List Test → Type 0
Settles code [] = code ≡ 0
Settles code (t ∷ ts) = (t.holds ≡ true → code ≡ t.number) × (t.holds ≡ false → Settles code ts)

pub decides : (ts : List Test) (code : ℕ) → Settles code ts → Decides code ts
unfolding Settles
decides [] code s k = (λ e. sym e ∙ s, λ e. s ∙ sym e)
decides (t ∷ ts) code s k = (
  λ (e : code ≡ k). go t.holds refl e (λ (p : t.holds ≡ false). (decides ts code (s.1 p) k).0 e),
  λ f. ⊎_elim (λ h. s.0 h.0 ∙ sym h.1) (λ h. (decides ts code (s.1 h.0) k).1 h.1) f,
)
  where
    go : (b : Bool) → t.holds ≡ b → code ≡ k → (t.holds ≡ false → FirstIs k ts) → FirstIs k (t ∷ ts)
    go true p e rest = inl (p, sym e ∙ s.0 p)
    go false p e rest = inr (p, rest p)

-- no test is left
pub settled : (code : ℕ) → code ≡ 0 → Settles code []
unfolding Settles
settled code e = e

-- a test that fails
pub passes : (code k : ℕ) (ts : List Test) → Settles code ts → Settles code ((false ⟼ k) ∷ ts)
unfolding Settles
passes code k ts s = (λ p. absurd (false≢true p), λ p. s)

-- a test that holds
pub stops : (code k : ℕ) (ts : List Test) → code ≡ k → Settles code ((true ⟼ k) ∷ ts)
unfolding Settles
stops code k ts e = (λ p. e, λ p. absurd (true≢false p))

-- a row and its test
pub settle : {A : Type 0} (code : A → ℕ) (b : Bool) (g : A) (rs : List (Row A)) (o : A) (k : ℕ) (ts : List Test)
    → code g ≡ k → Settles (code (first_of rs o)) ts → Settles (code (first_of ((b ⟹ g) ∷ rs) o)) ((b ⟼ k) ∷ ts)
unfolding first_of
settle code true g rs o k ts e s = stops (code g) k ts e
settle code false g rs o k ts e s = passes _ k ts s

-- behind the last row
pub settle_last : {A : Type 0} (code : A → ℕ) (o : A) (ts : List Test) → Settles (code o) ts → Settles (code (first_of [] o)) ts
unfolding first_of
settle_last code o ts s = s

-- one test as two of one number
pub settle_or : (code : ℕ) (a b : Bool) (k : ℕ) (ts : List Test) → Settles code ((a || b ⟼ k) ∷ ts) → Settles code ((a ⟼ k) ∷ (b ⟼ k) ∷ ts)
unfolding Settles
settle_or code true b k ts s = (λ p. s.0 refl, λ p. absurd (true≢false p))
settle_or code false b k ts s = (λ p. absurd (false≢true p), λ p. s)
