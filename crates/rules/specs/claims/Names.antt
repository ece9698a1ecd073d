-- What the names in a path are that a mount lets pass.
use Rattle.std.specs.Prelude.{ℕ, true, false, List, [], ◌∷◌, ◌≡◌}
use Rattle.rules.specs.Utf8.{well_formed}
use Rattle.rules.specs.Path.{Part, Normal, ParentDir, components, too_long}
use Rattle.rules.specs.Saved.{good_name}

-- each name among the components has P
unfoldable pub EachName : (List ℕ → Type 0) → List Part → Type 0
EachName P [] = Unit {0}
EachName P (ParentDir at ∷ ps) = EachName P ps
EachName P (Normal at p ∷ ps) = P p × EachName P ps

-- a name that a restore takes (R10, R129 j)
abbrev pub GoodName : List ℕ → Type 0
GoodName p = good_name p ≡ true

-- of a path that rows 1 and 2 of a mount let pass, each name is such a one (R68, R69)
abbrev pub ComponentsGood : Type 0
ComponentsGood = (s : List ℕ) → too_long s ≡ false → well_formed s ≡ true → EachName GoodName (components 0 s)
