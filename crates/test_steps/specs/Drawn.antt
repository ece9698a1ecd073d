-- The generator of a script's numbers, and the bytes that come of it.
use Rattle.std.specs.Prelude.{ℕ, zero, suc, ◌+◌, ◌*◌, ◌/◌, ◌%◌, ◌^◌, List, [], ◌∷◌}

-- the number behind one
abbrev pub next : ℕ → ℕ
next x = (x % 2 ^ 32 * 1664525 + 1013904223) % 2 ^ 32

-- n bytes from a seed on
unfoldable pub drawn : ℕ → ℕ → List ℕ
drawn zero x = []
drawn (suc n) x = next x / 65536 % 256 ∷ drawn n (next x)
