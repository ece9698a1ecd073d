-- What a writer of text answers and leaves.
use Rattle.std.specs.Prelude.{ℕ, ◌+◌, ◌≤◌, List, ◌≡◌, length}
use Rattle.le.specs.Mem.{write}

-- the text stands from the place `at` on; the answer is the place behind it, at most so many bytes further; every other byte is as it was
pub record Wrote (was : List ℕ) (at most : ℕ) (text : List ℕ) (r : ℕ) (left : List ℕ) : Type 0 where
  pub end : r ≡ at + length text
  pub within : r ≤ at + most
  pub bytes : left ≡ write was at text
