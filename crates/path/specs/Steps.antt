-- One step along a path, read off the rules' list of its components; and that the steps yield this list.
use Rattle.std.specs.Prelude.{ℕ, zero, suc, ◌+◌, ◌-◌, ◌≤◌, ◌<◌, ◌≡◌, List, [], ◌∷◌, length, take, drop, Option, None, Some}
use Rattle.rules.specs.Path.{Part, Normal, ParentDir, parts_by, components}
use Rattle.path.specs.declared.components.Component.{Component}
use Rattle.path.specs.declared.components.Component.TheVariants.{Normal as NormalStep, ParentDir as ParentDirStep}

-- the n bytes of s from a place on
abbrev pub part : List ℕ → ℕ → ℕ → List ℕ
part s at n = take n (drop at s)

-- the bytes of s from one place to another
abbrev pub between : List ℕ → ℕ → ℕ → List ℕ
between s at end = part s at (end - at)

-- the length of the first of the parts
abbrev pub first_length : List (List ℕ) → ℕ
first_length [] = 0
first_length (p ∷ ps) = length p

-- how many bytes stand before the next byte `sep`: the first part
unfoldable pub part_length : ℕ → List ℕ → ℕ
part_length sep s = first_length (parts_by sep s)

-- where the part that stands at a place ends
unfoldable pub part_end : ℕ → List ℕ → ℕ → ℕ
part_end sep s at = at + part_length sep (drop at s)

-- the first of these components, if there is one, with the place where it starts and the place behind it
unfoldable pub first_component : List Part → Option Component
first_component [] = None
first_component (Normal at p ∷ ps) = Some (NormalStep at (length p) (at + length p))
first_component (ParentDir at ∷ ps) = Some (ParentDirStep at (at + 2))

-- the next component of a path from a place on
unfoldable pub next_component : List ℕ → ℕ → Option Component
next_component path at = first_component (components at (drop at path))

-- the component of a step, and then more from the place behind it; at the end there is none
abbrev pub on_step : Option Component → List ℕ → (ℕ → List Part) → List Part
on_step None path more = []
on_step (Some (ParentDirStep start next)) path more = ParentDir start ∷ more next
on_step (Some (NormalStep start n next)) path more = Normal start (part path start n) ∷ more next

-- the components that at most k steps yield, from a place on
abbrev pub stepped_parts : ℕ → List ℕ → ℕ → List Part
stepped_parts zero path at = []
stepped_parts (suc k) path at = on_step (next_component path at) path (λ (next : ℕ). stepped_parts k path next)

-- ---- what is claimed

-- a part of n bytes that starts at a place, and the place behind it, where the path goes on
pub record StepsOver (s : List ℕ) (at : ℕ) (p : Part) (start n next : ℕ) : Type 0 where
  pub parts : components at (drop at s) ≡ p ∷ components next (drop next s)
  pub from : at ≤ start
  pub some : 0 < n
  pub end : start + n ≡ next
  pub further : at < next
  pub within : next ≤ length s

-- an answer is a step along the components from a place on
abbrev pub ComponentStep : List ℕ → ℕ → Option Component → Type 0
ComponentStep s at None = components at (drop at s) ≡ []
ComponentStep s at (Some (ParentDirStep start next)) = StepsOver s at (ParentDir start) start 2 next
ComponentStep s at (Some (NormalStep start n next)) = StepsOver s at (Normal start (part s start n)) start n next

-- each answer is such a step
abbrev pub EveryStep : Type 0
EveryStep = (s : List ℕ) (at : ℕ) → ComponentStep s at (next_component s at)

-- stepping through a path to its end yields its components, in their order and no other (R37, R38)
abbrev pub SteppedAll : Type 0
SteppedAll = (s : List ℕ) → stepped_parts (suc (length s)) s 0 ≡ components 0 s
