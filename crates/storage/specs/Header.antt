-- The header of an instance, as numbers.
use Rattle.std.specs.Prelude.{ℕ, List, [], ◌∷◌, length}
use Rattle.le.specs.Mem.{bytes_of}
use Rattle.rules.specs.Instance.{Instance}
use Rattle.tables.specs.Table.{Col}
use Rattle.tables.specs.Layout.{mark}
use Rattle.tables.specs.Write.{yes_byte}

-- numbers as cells of the columns, each in its column's width
unfoldable pub spell : List Col → List ℕ → List (List ℕ)
spell [] vs = []
spell (c ∷ cs) [] = []
spell (c ∷ cs) (v ∷ vs) = bytes_of c.width v ∷ spell cs vs

-- the header's first eighteen numbers: all that it holds of an instance but the root's mount, whose cell says none
unfoldable pub header_of : Instance → List ℕ
header_of i =
    mark
    ∷ i.fixed.capacity
    ∷ length i.tree.nodes
    ∷ i.tree.next
    ∷ i.fixed.known
    ∷ i.options.in_opts
    ∷ i.options.out_opts
    ∷ i.fixed.mapping.internal
    ∷ i.fixed.mapping.external
    ∷ i.fixed.mapping.range
    ∷ i.options.mapping.internal
    ∷ i.options.mapping.external
    ∷ i.options.mapping.range
    ∷ i.options.flags
    ∷ i.indexes.counter
    ∷ yes_byte i.removal
    ∷ yes_byte i.initialized
    ∷ 0
    ∷ []
