-- A test of bytes, asked of a part and then of the rest. Assumes nothing.
use mathlib.Core.Path.{◌≡◌, refl, sym, ap, ◌∙◌}
use mathlib.Core.Bool.{Bool, true, false, ◌||◌, or-true, or-false}
use mathlib.Core.List.{List, [], ◌∷◌, ◌++◌}
use Prim.Native.Nat.{ℕ, ◌+◌, ◌-◌, ◌≤◌, ◌<◌}
use native.Mathlib.Omega.{arith}
use lib.ListN.{length, take, drop, length-drop, take-append-drop}
use lib.Seq.{drop-drop}
use Rattle.std.specs.List.{list_any, between}
use Rattle.std.proofs.lemmas.Slice.{between_to_end}
use Rattle.std.proofs.lemmas.List.Folds.{list_any-append}
use Rattle.rules.proofs.Tests.{or_neither}

module _ (f : ℕ → Bool) where
  -- one more byte
  pub any_push : (ys : List ℕ) (x : ℕ) (a r b : Bool) → a ≡ list_any f ys → r ≡ f x → b ≡ (a || r) → b ≡ list_any f (ys ++ (x ∷ []))
  any_push ys x a r b e h t = t ∙ rw (e, h) (sym (list_any-append f ys (x ∷ []) ∙ ap (λ q. list_any f ys || q) (or-false (f x))))

  -- the first n bytes, and the others
  any_parts : (xs : List ℕ) (n : ℕ) → list_any f xs ≡ (list_any f (take n xs) || list_any f (drop n xs))
  any_parts xs n = ap (list_any f) (sym (take-append-drop n xs)) ∙ list_any-append f (take n xs) (drop n xs)

  -- what is hit in the first n bytes of what is left, is hit
  pub hit_here : (s rest part : List ℕ) (n : ℕ) → list_any f s ≡ list_any f rest → part ≡ take n rest → list_any f part ≡ true → true ≡ list_any f s
  hit_here s rest part n e p h = sym (e ∙ any_parts rest n ∙ rw (← p, h))

  -- where none of them is hit, the others decide
  pub passed : (s rest part tail : List ℕ) (n : ℕ) → list_any f s ≡ list_any f rest → part ≡ take n rest → tail ≡ drop n rest → list_any f part ≡ false
      → list_any f s ≡ list_any f tail
  passed s rest part tail n e p q h = e ∙ any_parts rest n ∙ rw (← p, ← q, h)

  -- the last eight bytes decide, where what is left is less
  pub last_eight : (s rest : List ℕ) → list_any f s ≡ list_any f rest → rest ≡ drop (length s - length rest) s → length rest < 8 → 8 ≤ length s
      → list_any f (between (length s - 8) (length s) s) ≡ list_any f s
  last_eight s rest e r h l = rw (between_to_end s (length s - 8) (length s) (omega arith)) (go (list_any f (drop (length s - 8) s)) refl)
    where
      go : (t : Bool) → list_any f (drop (length s - 8) s) ≡ t → t ≡ list_any f s
      go true q = sym (any_parts s (length s - 8) ∙ rw q (or-true (list_any f (take (length s - 8) s))))
      go false q =
          let z : length s - 8 + (8 - length rest) ≡ length s - length rest = omega arith in
          let w : drop (8 - length rest) (drop (length s - 8) s) ≡ rest = drop-drop (8 - length rest) (length s - 8) s ∙ ap (λ (n : ℕ). drop n s) z ∙ sym r in
          sym (e ∙ ap (list_any f) (sym w) ∙ (or_neither _ _ (sym (any_parts (drop (length s - 8) s) (8 - length rest)) ∙ q)).1)

-- what is left is the end of the whole
pub rest_more : (s rest tail : List ℕ) (n : ℕ) → length rest ≤ length s → rest ≡ drop (length s - length rest) s → tail ≡ drop n rest → n ≤ length rest
    → tail ≡ drop (length s - length tail) s
rest_more s rest tail n h r q l =
    let m : length tail ≡ length rest - n = ap length q ∙ length-drop n rest in
    let z : length s - length rest + n ≡ length s - length tail = omega arith in
    q ∙ ap (drop n) r ∙ drop-drop n (length s - length rest) s ∙ ap (λ (k : ℕ). drop k s) z
