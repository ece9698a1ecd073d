-- Eight bytes together: what is found in parts is found in the whole. Assumes nothing.
use mathlib.Core.Path.{◌≡◌, refl, sym, ap, ◌∙◌}
use mathlib.Core.Bool.{Bool, true, false, ◌||◌}
use mathlib.Core.List.{List}
use Prim.Native.Nat.{ℕ, zero, suc, ◌+◌, ◌-◌, ◌≤◌, ◌<◌}
use native.Mathlib.Nat.{zero-add}
use native.Mathlib.Omega.{arith}
use borrow.Author.Tests.{eq-eqb, ne_eqb, eqb-true, eqb-false}
use lib.ListN.{length, get_or, drop}
use lib.Dec.{eqb}
use Rattle.rules.specs.Bytes.{holds}
use Rattle.scan.specs.First.{any_of}
use Rattle.scan.proofs.First.{any_add, any_part, any_last, any_more}
use Rattle.path.specs.Byte.{is_byte}
use Rattle.path.proofs.Naming.{holds_end, holds_here, holds_more}

-- ---- one byte

module _ (s : List ℕ) (i : ℕ) where
  pub is : (b : ℕ) → get_or s i 0 ≡ b → is_byte b s i ≡ true
  unfolding is_byte
  is b h = eq-eqb (get_or s i 0) b h

  pub is_not : (b : ℕ) → (get_or s i 0 ≡ b → ⊥) → is_byte b s i ≡ false
  unfolding is_byte
  is_not b h = ne_eqb (get_or s i 0) b h

-- ---- eight by eight: after i places none is hit

abbrev pub None : (ℕ → Bool) → ℕ → ℕ → Type 0
None f n i = (i ≤ n) × (any_of f 0 i ≡ false)

pub none_yet : (f : ℕ → Bool) (n : ℕ) → None f n 0
unfolding any_of
none_yet f n = (omega arith, refl)

pub none_on : (f : ℕ → Bool) (n i : ℕ) → None f n i → 8 ≤ n - i → any_of f i 8 ≡ false → None f n (i + 8)
none_on f n i h l e = (omega (arith, h.0), any_more f i 8 h.1 e)

pub one_there : (f : ℕ → Bool) (n i : ℕ) → None f n i → 8 ≤ n - i → any_of f i 8 ≡ true → any_of f 0 n ≡ true
one_there f n i h l e = any_part f i 8 n (omega (arith, h.0)) e

pub last_eight : (f : ℕ → Bool) (n i : ℕ) → None f n i → 8 ≤ n → n - i < 8 → any_of f (n - 8) 8 ≡ any_of f 0 n
last_eight f n i h m l = any_last f i 8 n h.1 m (omega (arith, h.0))

-- ---- a byte in a string

-- the first of the places, and those behind it
pub any_first : (f : ℕ → Bool) (i k : ℕ) → any_of f i (suc k) ≡ (f i || any_of f (i + 1) k)
unfolding any_of
any_first f i k =
    let z : suc k ≡ 1 + k = omega arith in
    let y : i + zero ≡ i = omega arith in
    ap (any_of f i) z ∙ any_add f i 1 k ∙ ap (λ (m : ℕ). f m || any_of f (i + 1) k) y

holds_from : (b : ℕ) (s : List ℕ) (k i : ℕ) → i + k ≡ length s → holds b (drop i s) ≡ any_of (is_byte b s) i k
unfolding any_of
holds_from b s zero i e = holds_end b s i (omega arith)
holds_from b s (suc k) i e = go (eqb (get_or s i 0) b) refl (holds_from b s k (i + 1) (omega arith))
  where
    go : (t : Bool) → eqb (get_or s i 0) b ≡ t → holds b (drop (i + 1) s) ≡ any_of (is_byte b s) (i + 1) k → holds b (drop i s) ≡ any_of (is_byte b s) i (suc k)
    go true q r = holds_here b s i (omega arith) (eqb-true (get_or s i 0) b q) ∙ sym (any_first (is_byte b s) i k ∙ rw (is s i b (eqb-true (get_or s i 0) b q)))
    go false q r =
        holds_more b s i (omega arith) (eqb-false (get_or s i 0) b q) ∙ r ∙ sym (any_first (is_byte b s) i k ∙ rw (is_not s i b (eqb-false (get_or s i 0) b q)))

pub holds_any : (b : ℕ) (s : List ℕ) → holds b s ≡ any_of (is_byte b s) 0 (length s)
holds_any b s = holds_from b s (length s) 0 (zero-add (length s))
