-- A name copied into lent bytes, and how long names are.
use Rattle.std.specs.Prelude.{ℕ, ◌≤◌, ◌≡◌, List, length}
use Rattle.le.specs.Mem.{write}
use Rattle.rules.specs.Numbers.{max_name}
use Rattle.tables.specs.View.{node_at}

-- a name in the bytes d at a place: n is its length, and e holds it there and else what d held
pub record Copied (name d : List ℕ) (to n : ℕ) (e : List ℕ) : Type 0 where
  pub count : n ≡ length name
  pub bytes : e ≡ write d to name

-- no row has a longer name, whatever the bytes are (R10, R42)
abbrev pub EveryNameShort : Type 0
EveryNameShort = (n : ℕ) (mem : List ℕ) (i : ℕ) → length (node_at n mem i).name ≤ max_name
