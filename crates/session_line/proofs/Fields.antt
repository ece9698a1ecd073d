-- Laws of the fields between spaces, by those of the parts between any one byte: what the fields of a line are. Assumes nothing.
use Prim.Native.Nat.{ℕ, ◌+◌, ◌-◌, ◌≤◌, ◌<◌}
use native.Mathlib.Omega.{arith}
use mathlib.Core.Path.{◌≡◌, refl, sym, ap, ◌∙◌}
use mathlib.Core.Bool.{Bool, true, false, cond}
use mathlib.Core.List.{List, [], ◌∷◌}
use lib.ListN.{length, take, drop, drop_of_length-le}
use lib.Seq.{drop-drop, take_all}
use lib.Dec.{eqb}
use Rattle.std.specs.Prelude.{Option, None, Some}
use Rattle.rules.specs.Path.{parts_by, onto}
use Rattle.rules.specs.Session.{space, words}
use Rattle.path.specs.Steps.{between, part_length, part_end}
use Rattle.path.proofs.Places.{here}
use Rattle.path.proofs.Words.{end_in, end_length, behind, first_part}
use Rattle.std.specs.Borrow.{Bor}
use Rattle.std.specs.Slice.{IsGetRangeResult}
use Rattle.session_line.specs.Fields.{left_of, first, alone}

-- the end of the first field lies in the line
pub within : (s : List ℕ) (e : ℕ) → e ≡ part_end 32 s 0 → e ≤ length s
within s e at = (end_in space s 0 at (omega arith)).1

-- the fields behind the first one, by what is got of them
pub behind_got : (s : List ℕ) (r : Option (Bor (List ℕ))) → IsGetRangeResult s 1 (length s) r → behind space s ≡ left_of r
behind_got [] None h = refl
behind_got [] (Some t) h = absurd (let z : ⊥ = omega (arith, h) in z)
behind_got (b ∷ s) None h = absurd (let z : ⊥ = omega (arith, h) in z)
behind_got (b ∷ s) (Some t) h = ap words (sym (h.0.2 ∙ take_all _ s (omega arith)))

pub cuts : (s : List ℕ) (e : ℕ) → e ≡ part_end 32 s 0 → (f b : List ℕ) (r : Option (Bor (List ℕ))) → f ≡ take e s → b ≡ drop e s → IsGetRangeResult b 1 (length b) r → words s ≡ f ∷ left_of r
cuts s e at f b r p q g =
    let n : part_length space s ≡ e = omega (arith, end_length space s 0, at) in
    first_part space s ∙ rw (n, ← p, ← q, behind_got b r g)

-- a line has a field, even where it is empty
pub none_alone : (w s : List ℕ) → alone w (words s) ≡ None
none_alone w s = rw (first_part space s)

-- the first of some fields, by whether it is empty
pub first_empty : (ws us : List (List ℕ)) (w : List ℕ) → ws ≡ w ∷ us → length w ≡ 0 → first ws ≡ None
first_empty ws us [] e h = rw e
first_empty ws us (b ∷ w) e h = absurd (let z : ⊥ = omega arith in z)

pub first_filled : (ws us : List (List ℕ)) (w : List ℕ) → ws ≡ w ∷ us → (length w ≡ 0 → ⊥) → first ws ≡ Some (w, us)
first_filled ws us [] e h = absurd (h refl)
first_filled ws us (b ∷ w) e h = rw e
