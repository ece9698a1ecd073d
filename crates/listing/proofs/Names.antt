-- The record of a row, by another spelling of its number and its name. Assumes nothing.
use mathlib.Core.Path.{◌≡◌}
use mathlib.Core.List.{List, [], ◌∷◌}
use Prim.Native.Nat.{ℕ}
use lib.ListN.{length}
use Rattle.rules.specs.Listing.{dirent}
use Rattle.dirent.specs.Lays.{Lays}

pub named : (x y : ℕ) (name other : List ℕ) (off : ℕ) → x ≡ y → name ≡ other → (b : List ℕ) (m : ℕ) (f : List ℕ)
    → Lays b (length b) (dirent x off other ∷ []) m f → Lays b (length b) (dirent y off name ∷ []) m f
named x y name other off h e b m f w = rw (e, ← h) w
