-- The components of a path: what the paths of a table need, by computation; and each name has what each piece has. Assumes nothing.
use mathlib.Core.Path.{◌≡◌, refl}
use mathlib.Core.Bool.{Bool, true, false, cond}
use mathlib.Core.List.{List, [], ◌∷◌}
use Prim.Native.Nat.{ℕ, ◌+◌, ◌≤◌}
use lib.ListN.{length}
use lib.Dec.{ltb}
use borrow.Author.Tests.{ltb-false}
use Rattle.rules.specs.Bytes.{same, ascii}
use Rattle.rules.specs.Path.{Part, Normal, ParentDir, pieces, is_dot, is_dots, parts_by, sorted, kept_parts, components, any_longer, too_long}
use Rattle.rules.specs.Tree.{is_child, child_in, node_in, parent_in, mount_step, makes}
use Rattle.rules.specs.Mount.{planned}
use Rattle.rules.specs.claims.Needed.{walks, wanted, Needed}
use Rattle.rules.specs.claims.Names.{EachName}
use Rattle.rules.proofs.Tests.{or_neither}

-- the theorem: what the paths of the table need
pub needed : Needed
unfolding same ascii parts_by sorted kept_parts components is_child child_in node_in parent_in mount_step makes planned walks wanted
needed = refl

-- ---- each name

-- each piece has the property P
unfoldable pub EachPiece : (List ℕ → Type 0) → List (List ℕ) → Type 0
EachPiece P [] = Unit {0}
EachPiece P (p ∷ ps) = P p × EachPiece P ps

-- at most 255 bytes
abbrev pub Short : List ℕ → Type 0
Short p = length p ≤ 255

module _ (P : List ℕ → Type 0) where
  pub first_name : (at : ℕ) (p : List ℕ) (ps : List Part) → EachName P (Normal at p ∷ ps) → P p
  unfolding EachName
  first_name at p ps h = h.0

  pub rest_names : (p : Part) (ps : List Part) → EachName P (p ∷ ps) → EachName P ps
  unfolding EachName
  rest_names (ParentDir at) ps h = h
  rest_names (Normal at p) ps h = h.1

-- the law: each piece has P, and one that is a name has Q then; so each name has Q
pub kept_names : (P Q : List ℕ → Type 0) → ((p : List ℕ) → same p [] ≡ false → is_dot p ≡ false → is_dots p ≡ false → P p → Q p)
    → (at : ℕ) (ps : List (List ℕ)) → EachPiece P ps → EachName Q (kept_parts at ps)
unfolding EachPiece EachName kept_parts sorted
kept_names P Q f at [] h = tt
kept_names P Q f at (p ∷ ps) h = go (same p []) refl (is_dot p) refl (is_dots p) refl (kept_parts (at + length p + 1) ps) (kept_names P Q f (at + length p + 1) ps h.1)
  where
    go : (x : Bool) → same p [] ≡ x → (y : Bool) → is_dot p ≡ y → (z : Bool) → is_dots p ≡ z → (qs : List Part) → EachName Q qs
        → EachName Q (cond x qs (cond y qs (cond z (ParentDir at ∷ qs) (Normal at p ∷ qs))))
    go true e y g z d qs k = k
    go false e true g z d qs k = k
    go false e false g true d qs k = k
    go false e false g false d qs k = (f p e g d h.0, k)

-- ---- a path that is not too long

none_longer : (ps : List (List ℕ)) → any_longer 255 ps ≡ false → EachPiece Short ps
unfolding any_longer EachPiece
none_longer [] e = tt
none_longer (p ∷ ps) e =
    let o = or_neither (ltb 255 (length p)) (any_longer 255 ps) e in
    (ltb-false 255 (length p) o.0, none_longer ps o.1)

-- its length, and that of each piece
pub within_limits : (s : List ℕ) → too_long s ≡ false → (length s ≤ 4096) × EachPiece Short (pieces s)
unfolding too_long
within_limits s e =
    let o = or_neither (ltb 4096 (length s)) (any_longer 255 (pieces s)) e in
    (ltb-false 4096 (length s) o.0, none_longer (pieces s) o.1)

pub names_short : (s : List ℕ) → too_long s ≡ false → EachName Short (components 0 s)
unfolding components
names_short s e = kept_names Short Short (λ p _ _ _ h. h) 0 (pieces s) (within_limits s e).1
