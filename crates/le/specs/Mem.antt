-- Memory as a list of bytes, and what is written into it. Writing is total, as reading is: past the end nothing is changed,
-- so that most laws ask for no bound.
use Rattle.std.specs.Prelude.{ℕ, List}
unfoldable pub use Rattle.rules.specs.Fields.{read, value, bytes_of, get}
unfoldable pub use Rattle.rules.specs.Bytes.{same}
pub use Rattle.rules.specs.Bytes.{Bytes}
-- `write`: the memory with these bytes from a place on
pub use Rattle.std.proofs.lemmas.List.Edits.{sets as write}

-- the memory with a number in k bytes at a place
unfoldable pub put : ℕ → List ℕ → ℕ → ℕ → List ℕ
put k mem at v = write mem at (bytes_of k v)
