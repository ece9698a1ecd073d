-- Cells that a line names, and the line with their numbers.
use Rattle.std.specs.Prelude.{ℕ, ◌-◌, cond, ◌&&◌, List, [], ◌∷◌, ◌++◌, eqb, leb, get_or, Option, Some, None, option_map, unwrap_or}
use Rattle.rules.specs.Session.{decimal}

-- the cell that a dollar sign and a letter from `a` to `h` at the front name, 0 to 7
unfoldable pub cell_named : List ℕ → Option ℕ
cell_named [] = None
cell_named (a ∷ []) = None
cell_named (a ∷ b ∷ s) = cond (eqb a 36 && leb 97 b && leb b 104) (Some (b - 97)) None

-- the line, with each dollar sign and the letter behind it replaced by the decimal of the cell that they name; a cell that is not there is 0
unfoldable pub expanded_by : List ℕ → List ℕ → List ℕ
expanded_by cells [] = []
expanded_by cells (a ∷ []) = a ∷ []
expanded_by cells (a ∷ b ∷ s) =
    unwrap_or (option_map (λ k. decimal (get_or cells k 0) ++ expanded_by cells s) (cell_named (a ∷ b ∷ s))) (a ∷ expanded_by cells (b ∷ s))
