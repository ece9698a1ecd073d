-- Adler-32, as RFC 1950 has it.
use Rattle.std.specs.Prelude.{ℕ, ◌+◌, ◌*◌, ◌/◌, ◌%◌, List}
use Rattle.std.specs.List.{fold}

-- the low half of the sum with one byte more
abbrev pub low : ℕ → ℕ → ℕ
low sum b = (sum % 65536 + b) % 65521

-- the high half
abbrev pub high : ℕ → ℕ → ℕ
high sum b = (sum / 65536 % 65536 + low sum b) % 65521

-- both
unfoldable pub summed : ℕ → ℕ → ℕ
summed sum b = high sum b * 65536 + low sum b

-- the sum with a run of bytes more
unfoldable pub adler : ℕ → List ℕ → ℕ
adler sum s = fold summed sum s
