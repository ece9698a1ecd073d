-- Tests, of which all have to pass.
use Rattle.std.specs.Prelude.{Bool, true, ◌&&◌, List, [], ◌∷◌}

-- all of these tests pass
unfoldable pub every : List Bool → Bool
every [] = true
every (t ∷ ts) = t && every ts
