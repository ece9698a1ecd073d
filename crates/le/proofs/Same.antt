-- Equality of runs, by the numbers that they spell. Assumes nothing.
use mathlib.Core.Path.{◌≡◌, refl, sym, ap, ◌∙◌}
use mathlib.Core.Bool.{Bool, true, false}
use mathlib.Core.List.{List}
use Prim.Native.Nat.{ℕ}
use Rattle.rules.proofs.Same.{same_refl, same_eq}
use Rattle.rules.proofs.Fields.{bytes_back}
use Rattle.le.specs.Mem.{read, value, bytes_of, get, same, Bytes}

-- equal numbers, equal bytes
pub same_words : (k : ℕ) (a b : List ℕ) (p q : ℕ) → Bytes a → Bytes b → get k a p ≡ get k b q → same (read a p k) (read b q k) ≡ true
same_words k a b p q ba bb e = rw (sym (bytes_back k a p ba) ∙ ap (bytes_of k) e ∙ bytes_back k b q bb) (same_refl (read b q k))

unequal : (a b : List ℕ) (t : Bool) → same a b ≡ t → (value a ≡ value b → ⊥) → same a b ≡ false
unequal a b true e h = absurd (h (ap value (same_eq a b e)))
unequal a b false e h = e

-- other numbers, other bytes
pub other_words : (k : ℕ) (a b : List ℕ) (p q : ℕ) → (get k a p ≡ get k b q → ⊥) → same (read a p k) (read b q k) ≡ false
unfolding get
other_words k a b p q h = unequal (read a p k) (read b q k) (same (read a p k) (read b q k)) refl h
