-- What a turn of each loop of `runs` does. Assumes nothing.
use mathlib.Core.Path.{◌≡◌, sym, ap, ◌∙◌}
use mathlib.Core.Bool.{Bool, true, false, true≢false, ◌&&◌}
use mathlib.Core.Logic.{inr}
use mathlib.Core.List.{List, [], ◌∷◌, ◌++◌}
use Prim.Native.Nat.{ℕ, ◌+◌, ◌*◌, ◌-◌, ◌≤◌, ◌<◌}
use native.Mathlib.Nat.{add-zero, sub-zero}
use native.Mathlib.Omega.{arith}
use lib.Dec.{eqb}
use borrow.Author.Tests.{eqb-true, eq-eqb}
use lib.ListN.{length, get_or, set, length-set}
use Rattle.rules.proofs.Same.{same_append, same_eq, same_refl, ne_same}
use Rattle.rules.proofs.Fields.{length_read, read_add}
use Rattle.le.specs.Mem.{read, value, get, write, same, Bytes}
use Rattle.le.proofs.Lens.{write_append, byte_apart, read_part}
use Rattle.le.proofs.Same.{same_words, other_words}

-- ---- the loop that writes, of which i of n bytes are done

-- the memory has the bytes `bs i` from a place on
abbrev pub Written : List ℕ → ℕ → (ℕ → List ℕ) → ℕ → List ℕ → ℕ → Type 0
Written mem at bs n d i = (i ≤ n) × ((length d ≡ length mem) × (d ≡ write mem at (bs i)))

-- the next byte behind them
next : (mem : List ℕ) (at : ℕ) (bs : ℕ → List ℕ) (n : ℕ) (d : List ℕ) (i v : ℕ) → Written mem at bs n d i → i < n
    → length (bs i) ≡ i → bs (i + 1) ≡ bs i ++ (v ∷ []) → Written mem at bs n (set d (at + i) v) (i + 1)
next mem at bs n d i v w h l e =
    let step : write mem at (bs i ++ (v ∷ [])) ≡ set d (at + i) v = write_append mem at (bs i) (v ∷ []) ∙ (λ t. set (sym w.1.1 t) (at + l t) v) in
    (omega arith, (length-set d (at + i) v ∙ w.1.0, sym (ap (write mem at) e ∙ step)))

pub all_written : (mem : List ℕ) (at : ℕ) (bs : ℕ → List ℕ) (n : ℕ) (d : List ℕ) (i : ℕ) → Written mem at bs n d i → n ≤ i → d ≡ write mem at (bs n)
all_written mem at bs n d i w h =
    let e : i ≡ n = omega arith in
    w.1.1 ∙ rw e

-- of a run that is copied
copied : (mem src : List ℕ) (at from n : ℕ) (d : List ℕ) (i : ℕ) → Written mem at (read src from) n d i → i < n
    → Written mem at (read src from) n (set d (at + i) (get_or src (from + i) 0)) (i + 1)
unfolding read
copied mem src at from n d i w h = next mem at (read src from) n d i (get_or src (from + i) 0) w h (length_read src from i) (read_add src from i 1)

-- of a run that is moved down: the next byte lies above all that is written
pub moved : (mem : List ℕ) (to from n : ℕ) (d : List ℕ) (i : ℕ) → to ≤ from → Written mem to (read mem from) n d i → i < n
    → Written mem to (read mem from) n (set d (to + i) (get_or d (from + i) 0)) (i + 1)
moved mem to from n d i b w h =
    let v : get_or d (from + i) 0 ≡ get_or mem (from + i) 0 =
    ap (λ (l : List ℕ). get_or l (from + i) 0) w.1.1 ∙ byte_apart mem to (read mem from i) (from + i) (inr (omega (arith, length_read mem from i))) in
    rw v (copied mem mem to from n d i w h)

-- ---- loops that compare

-- the answer for all n bytes is the answer for those that are left
abbrev pub Rest : List ℕ → ℕ → List ℕ → ℕ → ℕ → ℕ → Type 0
Rest a p b q n i = (i ≤ n) × (same (read a p n) (read b q n) ≡ same (read a (p + i) (n - i)) (read b (q + i) (n - i)))

module _ (a : List ℕ) (p : ℕ) (b : List ℕ) (q n : ℕ) where
  pub none_compared : Rest a p b q n 0
  none_compared = (omega arith, rw (add-zero p, add-zero q, sub-zero))

  pub all_compared : (i : ℕ) → Rest a p b q n i → n ≤ i → same (read a p n) (read b q n) ≡ true
  unfolding same read
  all_compared i r h =
      let e : n - i ≡ 0 = omega arith in
      r.1 ∙ rw e

  -- the next k bytes of each
  next_same : (k i : ℕ) → Rest a p b q n i → i + k ≤ n
      → same (read a p n) (read b q n)
      ≡ (same (read a (p + i) k) (read b (q + i) k) && same (read a (p + (i + k)) (n - (i + k))) (read b (q + (i + k)) (n - (i + k))))
  next_same k i r h =
      let e : n - i ≡ k + (n - (i + k)) = omega arith in
      let f : p + i + k ≡ p + (i + k) = omega arith in
      let g : q + i + k ≡ q + (i + k) = omega arith in
      r.1 ∙ rw (e, read_add a (p + i) k (n - (i + k)), read_add b (q + i) k (n - (i + k)), f, g)
      (same_append (read a (p + i) k) _ (read b (q + i) k) _ (length_read a (p + i) k ∙ sym (length_read b (q + i) k)))

  pub equal_here : (k i : ℕ) → Rest a p b q n i → i + k ≤ n → Bytes a → Bytes b → get k a (p + i) ≡ get k b (q + i) → Rest a p b q n (i + k)
  equal_here k i r h ba bb e = (h, next_same k i r h ∙ rw (same_words k a b (p + i) (q + i) ba bb e))

  pub unequal_here : (k i : ℕ) → Rest a p b q n i → i + k ≤ n → (get k a (p + i) ≡ get k b (q + i) → ⊥) → same (read a p n) (read b q n) ≡ false
  unequal_here k i r h e = next_same k i r h ∙ rw (other_words k a b (p + i) (q + i) e)

  -- the first k bytes
  pub first_equal : (k : ℕ) → k ≤ n → Bytes a → Bytes b → get k a p ≡ get k b q → Rest a p b q n k
  first_equal k h ba bb e =
      let z : 0 + k ≡ k = omega arith in
      rw z at (equal_here k 0 none_compared (omega arith) ba bb (rw (add-zero p, add-zero q) e))

  pub first_unequal : (k : ℕ) → k ≤ n → (get k a p ≡ get k b q → ⊥) → same (read a p n) (read b q n) ≡ false
  first_unequal k h f = unequal_here k 0 none_compared (omega arith) (λ e. f (rw (add-zero p, add-zero q) at e))

  -- the next word
  pub words_compared : (i : ℕ) → Rest a p b q n (8 * i) → 8 * i + 8 ≤ n → Bytes a → Bytes b → get 8 a (p + 8 * i) ≡ get 8 b (q + 8 * i) → Rest a p b q n (8 * (i + 1))
  words_compared i r h ba bb e =
      let s : 8 * (i + 1) ≡ 8 * i + 8 = omega arith in
      rw s (equal_here 8 (8 * i) r h ba bb e)

  -- the last k bytes, which lap over those that are equal
  pub last_equal : (k i : ℕ) → Rest a p b q n i → n ≤ i + k → k ≤ n → Bytes a → Bytes b → get k a (p + (n - k)) ≡ get k b (q + (n - k)) → same (read a p n) (read b q n) ≡ true
  last_equal k i r h g ba bb e =
      let d : ℕ = i - (n - k) in
      let u : p + (n - k) + d ≡ p + i = omega arith in
      let v : q + (n - k) + d ≡ q + i = omega arith in
      let all : read a (p + (n - k)) k ≡ read b (q + (n - k)) k = same_eq _ _ (same_words k a b (p + (n - k)) (q + (n - k)) ba bb e) in
      let part : read a (p + i) (n - i) ≡ read b (q + i) (n - i) =
      rw (u, v) at (sym (read_part a (p + (n - k)) k d (n - i) (omega arith)) ∙ ap (λ (l : List ℕ). read l d (n - i)) all ∙ read_part b (q + (n - k)) k d (n - i) (omega arith)) in
      r.1 ∙ rw part (same_refl (read b (q + i) (n - i)))

  pub last_unequal : (k : ℕ) → k ≤ n → (get k a (p + (n - k)) ≡ get k b (q + (n - k)) → ⊥) → same (read a p n) (read b q n) ≡ false
  unfolding get
  last_unequal k g h =
      ne_same (read a p n) (read b q n)
      (λ e. h (ap value (sym (read_part a p n (n - k) k (omega arith)) ∙ ap (λ (l : List ℕ). read l (n - k) k) e ∙ read_part b q n (n - k) k (omega arith))))

  -- the answer by the last k bytes
  pub last_compared : (k i : ℕ) (t : Bool) → Rest a p b q n i → n ≤ i + k → k ≤ n → Bytes a → Bytes b
      → eqb (get k a (p + (n - k))) (get k b (q + (n - k))) ≡ t → t ≡ same (read a p n) (read b q n)
  last_compared k i true r h g ba bb e = sym (last_equal k i r h g ba bb (eqb-true _ _ e))
  last_compared k i false r h g ba bb e = sym (last_unequal k g (λ f. true≢false (sym (eq-eqb _ _ f) ∙ e)))
