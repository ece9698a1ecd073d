-- Laws of `.`, `..`, a byte in a name, and the component check. Assumes nothing.
use mathlib.Core.Path.{◌≡◌, refl, ap}
use mathlib.Core.Bool.{Bool, true, false, ◌||◌, or-true}
use mathlib.Core.List.{List, [], ◌∷◌}
use Prim.Native.Nat.{ℕ, ◌+◌, ◌≤◌, ◌<◌}
use lib.ListN.{length, get_or, drop, drop_of_length-le}
use lib.Dec.{eqb}
use borrow.Author.Tests.{eq-eqb, ne_eqb}
use Rattle.std.specs.List.{list_any}
use Rattle.rules.specs.Bytes.{holds}
use Rattle.rules.specs.Numbers.{DONE, INVAL}
use Rattle.rules.specs.Path.{slash, is_dot, is_dots, bad_component}
use Rattle.path.specs.Checks.{check_code}
use Rattle.path.proofs.Places.{here}

-- ---- a byte in a name, from a place on

module _ (b : ℕ) (s : List ℕ) (i : ℕ) where
  pub holds_end : length s ≤ i → holds b (drop i s) ≡ false
  unfolding holds
  holds_end h = rw (drop_of_length-le s h)

  pub holds_here : i < length s → get_or s i 0 ≡ b → holds b (drop i s) ≡ true
  unfolding holds
  holds_here h e = rw (here s i h, eq-eqb (get_or s i 0) b e)

  pub holds_more : i < length s → (get_or s i 0 ≡ b → ⊥) → holds b (drop i s) ≡ holds b (drop (i + 1) s)
  unfolding holds
  holds_more h e = rw (here s i h, ne_eqb (get_or s i 0) b e)

-- one of the bytes is b
pub any_holds : (b : ℕ) (s : List ℕ) → list_any (λ y. eqb y b) s ≡ holds b s
unfolding holds
any_holds b [] = refl
any_holds b (x ∷ s) = ap (λ (t : Bool). eqb x b || t) (any_holds b s)

-- ---- the check

module _ (p : List ℕ) where
  pub bad_dot : is_dot p ≡ true → INVAL ≡ check_code p
  unfolding check_code bad_component
  bad_dot e = rw e

  pub bad_dots : is_dots p ≡ true → INVAL ≡ check_code p
  unfolding check_code bad_component
  bad_dots e = rw (e, or-true)

  pub bad_slash : holds slash p ≡ true → INVAL ≡ check_code p
  unfolding check_code bad_component
  bad_slash e = rw (e, or-true)

  pub bad_zero : holds 0 p ≡ true → INVAL ≡ check_code p
  unfolding check_code bad_component
  bad_zero e = rw (e, or-true)

  pub good : is_dot p ≡ false → is_dots p ≡ false → holds slash p ≡ false → holds 0 p ≡ false → DONE ≡ check_code p
  unfolding check_code bad_component
  good a b c d = rw (a, b, c, d)
