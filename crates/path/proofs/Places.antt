-- Bytes at a place of a list. Assumes nothing.
use mathlib.Core.Path.{◌≡◌}
use mathlib.Core.List.{List, ◌∷◌}
use Prim.Native.Nat.{ℕ, ◌+◌, ◌-◌, ◌≤◌, ◌<◌}
use native.Mathlib.Numerals.{add-one}
use native.Mathlib.Omega.{arith}
use lib.ListN.{length, get_or, drop, length-take, length-drop}
use lib.Seq.{drop-cons}
use Rattle.path.specs.Steps.{part, between}

-- the bytes from a place before the end: the byte there, and those after it
pub here : (s : List ℕ) (at : ℕ) → at < length s → drop at s ≡ get_or s at 0 ∷ drop (at + 1) s
here s at h = rw (add-one, ← drop-cons s at 0)

pub part_length : (s : List ℕ) (at n : ℕ) → at + n ≤ length s → length (part s at n) ≡ n
part_length s at n h = simp (length-take, length-drop) (omega arith)

pub between_length : (s : List ℕ) (at end : ℕ) → at ≤ end → end ≤ length s → length (between s at end) ≡ end - at
between_length s at end h k = part_length s at (end - at) (omega arith)
