-- What is written is read back.
use Rattle.std.specs.Prelude.{ℕ, ◌≤◌, ◌<◌, ◌^◌, ◌≡◌, Some}
use Rattle.rules.specs.Session.{decimal}
use Rattle.decimal.specs.Read.{number_to}

-- a number of at most 20 digits, as every number of 64 bits is, is read back from its text up to any limit that it keeps (R148, R152)
abbrev pub ReadBack : Type 0
ReadBack = (max n : ℕ) → n ≤ max → n < 10 ^ 20 → number_to max (decimal n) ≡ Some n
