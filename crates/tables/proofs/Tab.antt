-- Laws of lists given by a function of the place. Assumes nothing.
use mathlib.Core.Path.{◌≡◌, refl, sym, ap, ◌∙◌, subst}
use Prim.Native.Nat.{ℕ, zero, suc, ◌+◌, ◌-◌, ◌≤◌, ◌<◌}
use native.Mathlib.Nat.{zero-add, add-zero, suc-add}
use native.Mathlib.Omega.{arith}
use mathlib.Core.List.{List, [], ◌∷◌, ◌++◌}
use lib.ListN.{length, get_or, set}
use Rattle.tables.specs.Table.{tab}

module _ {A : Type 0} where
  -- a list without its element k
  unfoldable pub remove_at : ℕ → List A → List A
  remove_at k [] = []
  remove_at zero (x ∷ xs) = xs
  remove_at (suc k) (x ∷ xs) = x ∷ remove_at k xs

  pub length_tab : (f : ℕ → A) (i k : ℕ) → length (tab f i k) ≡ k
  unfolding tab
  length_tab f i zero = refl
  length_tab f i (suc k) = ap suc (length_tab f (i + 1) k)

  tab_add : (f : ℕ → A) (i a b : ℕ) → tab f i (a + b) ≡ tab f i a ++ tab f (i + a) b
  unfolding tab
  tab_add f i zero b = rw (zero-add, add-zero)
  tab_add f i (suc a) b =
      let e : i + 1 + a ≡ i + suc a = omega arith in
      rw (suc-add, tab_add f (i + 1) a b, e)

  -- where i of n are done
  pub tab_next : (f : ℕ → A) (i n : ℕ) → i < n → tab f i (n - i) ≡ f i ∷ tab f (i + 1) (n - (i + 1))
  unfolding tab
  tab_next f i n h =
      let e : n - i ≡ suc (n - (i + 1)) = omega arith in
      rw e

  pub tab_done : (f : ℕ → A) (i n : ℕ) → n ≤ i → tab f i (n - i) ≡ []
  unfolding tab
  tab_done f i n h =
      let e : n - i ≡ 0 = omega arith in
      rw e

  -- element j
  pub tab_at : (f : ℕ → A) (i k j : ℕ) (d : A) → j < k → get_or (tab f i k) j d ≡ f (i + j)
  unfolding tab
  tab_at f i zero j d h = absurd (omega arith)
  tab_at f i (suc k) zero d h = rw add-zero
  tab_at f i (suc k) (suc j) d h =
      let e : i + 1 + j ≡ i + suc j = omega arith in
      tab_at f (i + 1) k j d (omega arith) ∙ rw e

  -- g's places are f's, d further on
  tab_shift : (f g : ℕ → A) (d i k : ℕ) → ((j : ℕ) → i ≤ j → j < i + k → g j ≡ f (j + d)) → tab g i k ≡ tab f (i + d) k
  unfolding tab
  tab_shift f g d i zero h = refl
  tab_shift f g d i (suc k) h =
      let e : i + 1 + d ≡ i + d + 1 = omega arith in
      let rest : tab g (i + 1) k ≡ tab f (i + d + 1) k = tab_shift f g d (i + 1) k (λ j a b. h j (omega arith) (omega arith)) ∙ rw e in
      λ t. h i (omega arith) (omega arith) t ∷ rest t

  pub tab_same : (f g : ℕ → A) (i k : ℕ) → ((j : ℕ) → i ≤ j → j < i + k → g j ≡ f j) → tab g i k ≡ tab f i k
  tab_same f g i k h = tab_shift f g 0 i k (λ j a b. rw add-zero (h j a b)) ∙ rw add-zero

  remove_at_lem : (a : List A) (x : A) (b : List A) → remove_at (length a) (a ++ x ∷ b) ≡ a ++ b
  unfolding remove_at
  remove_at_lem [] x b = refl
  remove_at_lem (y ∷ a) x b = ap (λ (l : List A). y ∷ l) (remove_at_lem a x b)

  -- one place changed
  pub tab_set : (f g : ℕ → A) (i k n : ℕ) → k < n → ((j : ℕ) → (j ≡ i + k → ⊥) → j < i + n → g j ≡ f j) → tab g i n ≡ set (tab f i n) k (g (i + k))
  unfolding tab
  tab_set f g i k zero h same = absurd (omega arith)
  tab_set f g i zero (suc n) h same =
      let e : i + 0 ≡ i = omega arith in
      let rest : tab g (i + 1) n ≡ tab f (i + 1) n = tab_same f g (i + 1) n (λ j a b. same j (λ q. omega arith) (omega arith)) in
      rw e (λ t. g i ∷ rest t)
  tab_set f g i (suc k) (suc n) h same =
      let e : i + suc k ≡ i + 1 + k = omega arith in
      let head : g i ≡ f i = same i (λ q. omega arith) (omega arith) in
      let rest : tab g (i + 1) n ≡ set (tab f (i + 1) n) k (g (i + 1 + k)) = tab_set f g (i + 1) k n (omega arith) (λ j q b. same j (λ p. q (omega arith)) (omega arith)) in
      rw e (λ t. head t ∷ rest t)

  -- one more at the end, and no other changed
  pub tab_append : (f g : ℕ → A) (c : ℕ) → ((j : ℕ) → j < c → g j ≡ f j) → tab g 0 (c + 1) ≡ tab f 0 c ++ (g c ∷ [])
  unfolding tab
  tab_append f g c h = tab_add g 0 c 1 ∙ rw (zero-add, tab_same f g 0 c (λ j a b. h j (omega arith)))

  -- place k gone, and those behind it closed up
  pub tab_remove : (f g : ℕ → A) (k m : ℕ) → ((j : ℕ) → j < k → g j ≡ f j) → ((j : ℕ) → k ≤ j → j < k + m → g j ≡ f (j + 1))
      → tab g 0 (k + m) ≡ remove_at k (tab f 0 (k + suc m))
  unfolding tab
  tab_remove f g k m low high =
      let before : List A = tab f 0 k in
      let after : List A = tab f (k + 1) m in
      let left : tab g 0 (k + m) ≡ before ++ after = tab_add g 0 k m ∙ rw (zero-add, tab_same f g 0 k (λ j a b. low j (omega arith)), tab_shift f g 1 k m high) in
      let right : tab f 0 (k + suc m) ≡ before ++ f k ∷ after = tab_add f 0 k (suc m) ∙ rw zero-add in
      left ∙ sym (ap (remove_at k) right
      ∙ subst (λ (i : ℕ). remove_at i (before ++ f k ∷ after) ≡ before ++ after) (length_tab f 0 k) (remove_at_lem before (f k) after))
