-- Parts of bytes, split and joined by a byte; and paths: the components of a rooted path, the limits, and the check of one component.
use Rattle.std.specs.Prelude.{ℕ, ◌+◌, Bool, false, cond, ◌||◌, List, [], ◌∷◌, ◌++◌, length, eqb, ltb}
use Rattle.rules.specs.Numbers.{max_name, max_path}
use Rattle.rules.specs.Bytes.{same, holds}

-- the byte `/`
abbrev pub slash : ℕ
slash = 47

-- the byte `.`
abbrev pub dot : ℕ
dot = 46

-- a component, a name or the parent, with the place of the path where it starts (R37)
pub data Part : Type 0 where
  Normal : ℕ → List ℕ → Part
  ParentDir : ℕ → Part

-- the byte before the first of the parts
abbrev pub onto : ℕ → List (List ℕ) → List (List ℕ)
onto b [] = (b ∷ []) ∷ []
onto b (p ∷ ps) = (b ∷ p) ∷ ps

-- the parts between the bytes `sep`, empty ones too (R37, R40, R146)
unfoldable pub parts_by : ℕ → List ℕ → List (List ℕ)
parts_by sep [] = [] ∷ []
parts_by sep (b ∷ s) = cond (eqb b sep) ([] ∷ parts_by sep s) (onto b (parts_by sep s))

-- the parts with the byte `sep` between two of them (R152)
abbrev pub joined_by : ℕ → List (List ℕ) → List ℕ
joined_by sep [] = []
joined_by sep (p ∷ []) = p
joined_by sep (p ∷ q ∷ ps) = p ++ (sep ∷ joined_by sep (q ∷ ps))

-- the parts between the slashes (R37, R40)
abbrev pub pieces : List ℕ → List (List ℕ)
pieces s = parts_by slash s

-- the part is `.` (R37, R58, R61)
abbrev pub is_dot : List ℕ → Bool
is_dot p = same p (dot ∷ [])

-- the part is `..` (R37, R58, R61)
abbrev pub is_dots : List ℕ → Bool
is_dots p = same p (dot ∷ dot ∷ [])

-- an empty part and `.` are dropped, `..` is the parent, any other part is a name; no name is folded away (R37, R38)
unfoldable pub sorted : ℕ → List ℕ → List Part → List Part
sorted at p ps = cond (same p []) ps (cond (is_dot p) ps (cond (is_dots p) (ParentDir at ∷ ps) (Normal at p ∷ ps)))

-- the components among pieces, the first of which stands at a place, with one slash between two (R37)
unfoldable pub kept_parts : ℕ → List (List ℕ) → List Part
kept_parts at [] = []
kept_parts at (p ∷ ps) = sorted at p (kept_parts (at + length p + 1) ps)

-- the components of the bytes s, which stand at a place of the path (R37, R38)
unfoldable pub components : ℕ → List ℕ → List Part
components at s = kept_parts at (pieces s)

-- the path has its leading slash; the empty path has none (R36, R43)
unfoldable pub rooted : List ℕ → Bool
rooted [] = false
rooted (b ∷ s) = eqb b slash

-- one of the parts has more than n bytes (R40)
unfoldable pub any_longer : ℕ → List (List ℕ) → Bool
any_longer n [] = false
any_longer n (p ∷ ps) = ltb n (length p) || any_longer n ps

-- over a limit: 4,096 bytes, or 255 between slashes; on raw bytes (R10, R40)
unfoldable pub too_long : List ℕ → Bool
too_long s = ltb max_path (length s) || any_longer max_name (pieces s)

-- what `validate_path_component` refuses: `.`, `..`, any slash, any byte 0; no other name, the empty one included (R24, R61, R62)
unfoldable pub bad_component : List ℕ → Bool
bad_component p = is_dot p || is_dots p || holds slash p || holds 0 p
