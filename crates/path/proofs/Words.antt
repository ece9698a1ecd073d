-- Laws of the parts between one byte, whatever it is: where a part ends, and what the parts are; and of the limits. Assumes nothing.
use mathlib.Core.Path.{◌≡◌, refl, sym, ◌∙◌}
use mathlib.Core.Bool.{Bool, true, false, cond, ◌||◌, or-false, or_assoc}
use mathlib.Core.List.{List, [], ◌∷◌}
use Prim.Native.Nat.{ℕ, zero, suc, ◌+◌, ◌-◌, ◌≤◌, ◌<◌, zero-le, suc-le-suc}
use native.Mathlib.Nat.{add-zero, suc-add, add-sub_cancel_left}
use native.Mathlib.Omega.{arith}
use lib.ListN.{length, get_or, take, drop, drop_of_length-le, length-drop}
use lib.Seq.{drop-drop, length-take-le}
use lib.Dec.{eqb, ltb}
use borrow.Author.Tests.{eq-eqb, ne_eqb, lt-ltb, le-ltb}
use Rattle.rules.specs.Path.{slash, onto, parts_by, pieces, rooted, any_longer, too_long}
use Rattle.std.proofs.Common.{Bor}
use Rattle.std.specs.Prelude.{Option, None, Some, slice_get, fold}
use Rattle.std.specs.List.{list_any}
use Rattle.std.specs.Option.{option_copied, option_eq}
use Rattle.std.proofs.lemmas.Option.{none-some, same_Some}
use Rattle.rules.proofs.Tests.{or_neither}
use Rattle.path.specs.Steps.{first_length, part_length, part_end}
use Rattle.path.proofs.Places.{here}

module _ (sep : ℕ) where
  -- ---- how many bytes stand before the next one that parts

  pub part_nil : part_length sep [] ≡ 0
  unfolding part_length parts_by
  part_nil = refl

  pub part_cons : (b : ℕ) (s : List ℕ) → part_length sep (b ∷ s) ≡ cond (eqb b sep) 0 (suc (part_length sep s))
  unfolding part_length parts_by
  part_cons b s = go (eqb b sep) (parts_by sep s)
    where
      go : (t : Bool) (ps : List (List ℕ)) → first_length (cond t ([] ∷ ps) (onto b ps)) ≡ cond t 0 (suc (first_length ps))
      go true ps = refl
      go false [] = refl
      go false (p ∷ ps) = refl

  pub part_le : (s : List ℕ) → part_length sep s ≤ length s
  part_le [] = rw part_nil zero-le
  part_le (b ∷ s) = rw (part_cons b s) (go (eqb b sep) (part_le s))
    where
      go : (t : Bool) → part_length sep s ≤ length s → cond t 0 (suc (part_length sep s)) ≤ suc (length s)
      go true h = zero-le
      go false h = suc-le-suc h

  -- whether one of the bytes parts, asked of each
  pub any_folded : (h : Bool) (s : List ℕ) → fold (λ hit x. hit || eqb x sep) h s ≡ (h || list_any (λ y. eqb y sep) s)
  any_folded h [] = sym (or-false h)
  any_folded h (b ∷ s) = any_folded (h || eqb b sep) s ∙ or_assoc h (eqb b sep) (list_any (λ y. eqb y sep) s)

  -- bytes without the one that parts are counted whole
  skips : (k : ℕ) (s : List ℕ) → list_any (λ y. eqb y sep) (take k s) ≡ false → part_length sep s ≡ length (take k s) + part_length sep (drop k s)
  skips zero s e = omega arith
  skips (suc k) [] e = rw part_nil
  skips (suc k) (b ∷ s) e =
      let n = or_neither (eqb b sep) (list_any (λ y. eqb y sep) (take k s)) e in
      part_cons b s ∙ rw (n.0, skips k s n.1) (sym (suc-add (length (take k s)) (part_length sep (drop k s))))

  -- the end of a part is not before its place, and lies in the string
  pub end_in : (s : List ℕ) (i : ℕ) {end : ℕ} → end ≡ part_end sep s i → i ≤ length s → (i ≤ end) × (end ≤ length s)
  unfolding part_end
  end_in s i e h = omega (arith, e, part_le (drop i s), length-drop i s)

  module _ (s : List ℕ) (i : ℕ) where
    pub end_past : length s ≤ i → part_end sep s i ≡ i
    unfolding part_end
    end_past h = rw (drop_of_length-le s h, part_nil, add-zero)

    pub end_here : i < length s → get_or s i 0 ≡ sep → part_end sep s i ≡ i
    unfolding part_end
    end_here h e = rw (here s i h, part_cons (get_or s i 0) (drop (i + 1) s), eq-eqb (get_or s i 0) sep e, add-zero)

    pub end_more : i < length s → (get_or s i 0 ≡ sep → ⊥) → part_end sep s i ≡ part_end sep s (i + 1)
    unfolding part_end
    end_more h e = rw (here s i h, part_cons (get_or s i 0) (drop (i + 1) s), ne_eqb (get_or s i 0) sep e) (omega arith)

    -- the end of a part is behind its place, where another byte than `sep` stands there
    pub end_behind : {end : ℕ} → end ≡ part_end sep s i → i < length s → (get_or s i 0 ≡ sep → ⊥) → (i < end) × (end ≤ length s)
    end_behind e h n = omega (arith, end_in s (i + 1) (e ∙ end_more h n) (omega arith))

    -- bytes without `sep` are passed over
    pub end_skip : (k : ℕ) → i + k ≤ length s → list_any (λ y. eqb y sep) (take k (drop i s)) ≡ false → part_end sep s i ≡ part_end sep s (i + k)
    unfolding part_end
    end_skip k h e =
        let n : length (take k (drop i s)) ≡ k = length-take-le k (drop i s) (omega (arith, length-drop i s)) in
        rw (skips k (drop i s) e, n, drop-drop k i s) (omega arith)

    pub end_length : part_end sep s i - i ≡ part_length sep (drop i s)
    unfolding part_end
    end_length = add-sub_cancel_left i (part_length sep (drop i s))

    -- the bytes behind the one that ends the part
    pub behind_end : drop (part_length sep (drop i s) + 1) (drop i s) ≡ drop (part_end sep s i + 1) s
    unfolding part_end
    behind_end =
        let e : i + (part_length sep (drop i s) + 1) ≡ i + part_length sep (drop i s) + 1 = omega arith in
        rw (drop-drop (part_length sep (drop i s) + 1) i s, e)

  -- ---- the first part, and those behind its end

  abbrev pub behind : List ℕ → List (List ℕ)
  behind [] = []
  behind (b ∷ s) = parts_by sep s

  pub first_part : (s : List ℕ) → parts_by sep s ≡ take (part_length sep s) s ∷ behind (drop (part_length sep s) s)
  unfolding parts_by
  first_part [] = rw part_nil
  first_part (b ∷ s) = rw (part_cons b s) (go (eqb b sep) (first_part s))
    where
      go : (t : Bool) → parts_by sep s ≡ take (part_length sep s) s ∷ behind (drop (part_length sep s) s)
          → cond t ([] ∷ parts_by sep s) (onto b (parts_by sep s)) ≡ take (cond t 0 (suc (part_length sep s))) (b ∷ s) ∷ behind (drop (cond t 0 (suc (part_length sep s))) (b ∷ s))
      go true e = refl
      go false e = rw e

-- ---- a part between slashes

abbrev pub word_length : List ℕ → ℕ
word_length s = part_length slash s

abbrev pub word_end : List ℕ → ℕ → ℕ
word_end s at = part_end slash s at

-- ---- the leading slash

-- the first byte, if there is one, is the slash
pub rooted_first : (s : List ℕ) (o : Option (Bor ℕ)) (b : Bor ℕ) → option_copied o ≡ slice_get s 0 → b.now ≡ slash → option_eq (λ (x y : Bor ℕ). eqb x.now y.now) o (Some b) ≡ rooted s
unfolding rooted
rooted_first [] None b e f = refl
rooted_first [] (Some x) b e f = absurd (none-some _ (sym e))
rooted_first (a ∷ s) None b e f = absurd (none-some _ e)
rooted_first (a ∷ s) (Some x) b e f = rw (same_Some _ _ e, f)

-- ---- the limits

longer_behind : (k : ℕ) (s : List ℕ) → any_longer k (behind slash s) ≡ any_longer k (pieces (drop 1 s))
unfolding any_longer parts_by
longer_behind k [] = rw (le-ltb k 0 zero-le)
longer_behind k (b ∷ s) = refl

longer_first : (k : ℕ) (s : List ℕ) → any_longer k (pieces s) ≡ (ltb k (word_length s) || any_longer k (pieces (drop (word_length s + 1) s)))
unfolding any_longer
longer_first k s = rw (first_part slash s, length-take-le (word_length s) s (part_le slash s), longer_behind k (drop (word_length s) s), drop-drop 1 (word_length s) s)

module _ (k : ℕ) (s : List ℕ) (i : ℕ) where
  longer_at : any_longer k (pieces (drop i s)) ≡ (ltb k (word_end s i - i) || any_longer k (pieces (drop (word_end s i + 1) s)))
  longer_at = rw (end_length slash s i, ← behind_end slash s i) (longer_first k (drop i s))

  pub longer_end : length s ≤ i → any_longer k (pieces (drop i s)) ≡ false
  unfolding any_longer parts_by
  longer_end h = rw (drop_of_length-le s h, le-ltb k 0 zero-le)

  pub longer_yes : k < word_end s i - i → any_longer k (pieces (drop i s)) ≡ true
  longer_yes h = longer_at ∙ rw (lt-ltb k (word_end s i - i) h)

  pub longer_no : word_end s i - i ≤ k → any_longer k (pieces (drop i s)) ≡ any_longer k (pieces (drop (word_end s i + 1) s))
  longer_no h = longer_at ∙ rw (le-ltb k (word_end s i - i) h)

module _ (s : List ℕ) where
  pub long_path : 4096 < length s → true ≡ too_long s
  unfolding too_long
  long_path h = rw (lt-ltb 4096 (length s) h)

  pub short_path : length s ≤ 4096 → too_long s ≡ any_longer 255 (pieces s)
  unfolding too_long
  short_path h = rw (le-ltb 4096 (length s) h)
