-- Byte strings: equal or not, a byte in them, and texts as their bytes.
use Rattle.std.specs.Prelude.{ℕ, ◌<◌, Bool, true, false, ◌&&◌, ◌||◌, List, [], ◌∷◌, get_or, eqb}
use Prim.Native.Char.{code}
use Prim.Native.String as S

-- the two are equal, byte for byte (R45)
unfoldable pub same : List ℕ → List ℕ → Bool
same [] [] = true
same [] (y ∷ ys) = false
same (x ∷ xs) [] = false
same (x ∷ xs) (y ∷ ys) = eqb x y && same xs ys

-- the byte stands in the string (R57, R61)
unfoldable pub holds : ℕ → List ℕ → Bool
holds b [] = false
holds b (x ∷ xs) = eqb x b || holds b xs

-- every element is a byte
abbrev pub Bytes : List ℕ → Type 0
Bytes s = (at : ℕ) → get_or s at 0 < 256

-- a text of ASCII as its bytes
unfoldable pub ascii : S.String → List ℕ
ascii S.[] = []
ascii (S.◌∷◌ c s) = code c ∷ ascii s
