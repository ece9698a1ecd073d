-- What the size of the records answers.
use Rattle.std.specs.Prelude.{ℕ, ◌+◌, ◌≤◌, ◌≡◌, List, length}
use Rattle.rules.specs.Numbers.{max_saved}
use Rattle.rules.specs.Saved.{tail_length, nodes_bytes}
use Rattle.rules.specs.StateRestore.{saved_nodes}
use Rattle.tables.specs.View.{nodes_of}

-- how many bytes the node records take, and that they are few (R120, R124)
pub record Sizes (mem : List ℕ) (n : ℕ) : Type 0 where
  pub count : n ≡ length (nodes_bytes (saved_nodes (nodes_of mem)))
  pub most : n + tail_length ≤ max_saved
