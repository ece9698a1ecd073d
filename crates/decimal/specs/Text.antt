-- What a writer of text leaves.
use Rattle.std.specs.Prelude.{ℕ, ◌+◌, ◌≤◌, List, ◌≡◌, length}
use Rattle.decimal.specs.declared.inner.Text.{Text}
use Rattle.decimal.specs.Wrote.{Wrote}

-- so many bytes more fit into the lent slice
abbrev pub HasRoom : Text → ℕ → Type 0
HasRoom t k = t.at + k ≤ length t.out.now

-- the text stands in the same lent slice from the place on, which is behind it now, at most so many bytes further; every other byte is as it was
pub record Appended (was : Text) (most : ℕ) (text : List ℕ) (now : Text) : Type 0 where
  pub same_slice : now.out.ghost_name ≡ was.out.ghost_name
  pub same_length : length now.out.now ≡ length was.out.now
  pub wrote : Wrote was.out.now was.at most text now.at now.out.now
