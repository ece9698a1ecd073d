-- What the application of a plan writes.
use Rattle.std.specs.Prelude.{ℕ, List, [], ◌∷◌}
use Rattle.rules.specs.Tree.{Node}
use Rattle.tables.specs.Write.{append_node}

-- the nodes go to the end of the table, one after the other, each with the next number (R48, R49)
unfoldable pub append_all : List Node → List ℕ → List ℕ
append_all [] mem = mem
append_all (n ∷ ns) mem = append_all ns (append_node n.parent n.name mem)
