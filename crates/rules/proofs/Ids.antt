-- The wrapped difference is the whole-number formula, and out and back is the identity. Assumes nothing.
use mathlib.Core.Path.{◌≡◌, refl, ap, ◌∙◌}
use mathlib.Core.Bool.{Bool, true, false, cond, ◌&&◌}
use mathlib.Core.Logic.{inl, inr, ⊎_elim}
use Prim.Native.Nat.{ℕ, ◌+◌, ◌-◌, ◌%◌, ◌^◌, ◌≤◌, ◌<◌}
use native.Mathlib.Omega.{arith}
use lib.Dec.{leb, ltb}
use borrow.Author.Tests.{leb-true, ltb-true, ltb-false, le-leb, lt-leb, lt-ltb, le-ltb}
use Rattle.rules.specs.Ids.{Mapping, turned, bad_mapping, inside, mapped, unmapped, wrapped, unwrapped}
use Rattle.rules.specs.claims.Ids.{WrappedIsWhole, OutAndBack, WrappedBack}
use Rattle.rules.proofs.Tests.{le_or_lt, and_both, or_neither}

-- within the mapping's limits
pub record Within (m : Mapping) : Type 0 where
  pub low : m.internal + m.range < 2 ^ 32
  pub high : m.external + m.range < 2 ^ 32

pub within : (m : Mapping) → bad_mapping m ≡ false → Within m
unfolding bad_mapping
within m e =
    let o = or_neither (ltb (2 ^ 32 - 1) (m.internal + m.range)) (ltb (2 ^ 32 - 1) (m.external + m.range)) e in
    record { low = omega (arith, ltb-false (2 ^ 32 - 1) (m.internal + m.range) o.0); high = omega (arith, ltb-false (2 ^ 32 - 1) (m.external + m.range) o.1) }

turned_good : (m : Mapping) → bad_mapping m ≡ false → bad_mapping (turned m) ≡ false
unfolding bad_mapping
turned_good m e =
    let w = within m e in
    rw (le-ltb (2 ^ 32 - 1) (m.external + m.range) (omega (arith, w.high)), le-ltb (2 ^ 32 - 1) (m.internal + m.range) (omega (arith, w.low)))

-- ---- inside or not

is_inside : (m : Mapping) (x : ℕ) → m.internal ≤ x → x < m.internal + m.range → inside m x ≡ true
unfolding inside
is_inside m x a b = rw (le-leb m.internal x a, lt-ltb x (m.internal + m.range) b)

inside_is : (m : Mapping) (x : ℕ) → inside m x ≡ true → (m.internal ≤ x) × (x < m.internal + m.range)
unfolding inside
inside_is m x e =
    let b = and_both (leb m.internal x) (ltb x (m.internal + m.range)) e in
    (leb-true m.internal x b.0, ltb-true x (m.internal + m.range) b.1)

-- ---- the wrapped difference

module _ (m : Mapping) (x : ℕ) (good : bad_mapping m ≡ false) (low : x < 2 ^ 32) where
  same_test : (leb m.internal x && ltb (x - m.internal) m.range) ≡ inside m x
  unfolding inside
  same_test =
      ⊎_elim (λ (l : m.internal ≤ x). rw (le-leb m.internal x l)
      (⊎_elim (λ (k : m.internal + m.range ≤ x). rw (le-ltb (x - m.internal) m.range (omega arith), le-ltb x (m.internal + m.range) k))
      (λ (k : x < m.internal + m.range). rw (lt-ltb (x - m.internal) m.range (omega arith), lt-ltb x (m.internal + m.range) k)) (le_or_lt (m.internal + m.range) x)))
      (λ (l : x < m.internal). rw (lt-leb m.internal x l)) (le_or_lt m.internal x)

  wrapped_whole : wrapped m x ≡ mapped m x
  unfolding wrapped mapped
  wrapped_whole = rw same_test (go (inside m x) refl)
    where
      go : (b : Bool) → inside m x ≡ b
          → cond b ((x + (m.external + 2 ^ 32 - m.internal) % 2 ^ 32) % 2 ^ 32) x ≡ cond b (x - m.internal + m.external) x
      go true e = omega (arith, inside_is m x e, (within m good).low, (within m good).high)
      go false e = refl

-- the theorem: what wraps is the formula in whole numbers, out and back
pub wrapped_is_whole : WrappedIsWhole
unfolding unwrapped unmapped
wrapped_is_whole m x good low = (wrapped_whole m x good low, wrapped_whole (turned m) x (turned_good m good) low)

-- ---- out and back

mapped_in : (m : Mapping) (x : ℕ) → inside m x ≡ true → mapped m x ≡ x - m.internal + m.external
unfolding mapped
mapped_in m x e = rw e

mapped_out : (m : Mapping) (x : ℕ) → inside m x ≡ false → mapped m x ≡ x
unfolding mapped
mapped_out m x e = rw e

-- the theorem, for an id of the internal range and for one of neither
pub out_and_back : OutAndBack
unfolding unmapped
out_and_back m x (inl e) =
    let i = inside_is m x e in
    let y = x - m.internal + m.external in
    ap (mapped (turned m)) (mapped_in m x e) ∙ (mapped_in (turned m) y (is_inside (turned m) y (omega arith) (omega (arith, i.0, i.1))) ∙ omega (arith, i.0))
out_and_back m x (inr (a, b)) = ap (mapped (turned m)) (mapped_out m x a) ∙ mapped_out (turned m) x b

-- ---- the same of what wraps

mapped_low : (m : Mapping) (x : ℕ) → bad_mapping m ≡ false → x < 2 ^ 32 → mapped m x < 2 ^ 32
unfolding mapped
mapped_low m x good low = go (inside m x) refl
  where
    go : (b : Bool) → inside m x ≡ b → cond b (x - m.internal + m.external) x < 2 ^ 32
    go true e = omega (arith, inside_is m x e, (within m good).high)
    go false e = low

-- the theorem: of a mapping that passes its test
pub wrapped_back : WrappedBack
wrapped_back m x good low w =
    ap (unwrapped m) (wrapped_is_whole m x good low).0
    ∙ ((wrapped_is_whole m (mapped m x) good (mapped_low m x good low)).1 ∙ out_and_back m x w)
