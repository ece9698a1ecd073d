-- Which indexes are free by their occupancy bytes; and that the answers of a search are told by what is said of them.
-- Assumes nothing.
use Rattle.std.proofs.Common.{◌≡◌, ℕ, eqb, List, get_or, sym, ◌∙◌, ne_eqb}
use mathlib.Core.Bool.{not-not}
use Rattle.rules.specs.Round.{free_of}
use Rattle.std.specs.Prelude.{Option}
use Rattle.index.specs.Slots.{held_in_column}
use Rattle.index.specs.declared.Allocated.{Allocated}

-- ---- which indexes are free

module _ (used : List ℕ) (i : ℕ) where
  pub free_at : (i ≡ 0 → ⊥) → eqb (get_or used i 0) 0 ≡ free_of (held_in_column used) i
  unfolding held_in_column
  free_at n = rw (ne_eqb i 0 n) (sym (not-not (eqb (get_or used i 0) 0)))

-- ---- answers of which the same is said are equal

pub read_of_injective : (x : Allocated) (a b : Allocated) → a ≡ x → b ≡ x → a ≡ b
read_of_injective x a b p q = p ∙ sym q

pub found_of_injective : (x : Option ℕ) (a b : Option ℕ) → a ≡ x → b ≡ x → a ≡ b
found_of_injective x a b p q = p ∙ sym q
