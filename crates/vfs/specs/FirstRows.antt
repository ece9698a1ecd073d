-- What the tests that mount and restored mount make first answer.
use Rattle.std.specs.Prelude.{List, [], ◌∷◌, ℕ, not, Result, Ok, Err}
use Rattle.rules.specs.declared.codes.VfsError.{VfsError}
use Rattle.rules.specs.declared.codes.VfsError.TheVariants.{TooLong, Inval, Small}
use Rattle.rules.specs.Utf8.{well_formed}
use Rattle.rules.specs.Path.{too_long}
use Rattle.rules.specs.Outcome.{◌⟹◌, first_of}
use Rattle.tables.specs.Laid.{laid}

-- the layout rule, the limits of a path, UTF-8 (R19, R69, R91)
unfoldable pub first_check : List ℕ → List ℕ → Result (Unit {0}) VfsError
first_check mem path = first_of ((not (laid mem) ⟹ Err Small) ∷ (too_long path ⟹ Err TooLong) ∷ (not (well_formed path) ⟹ Err Inval) ∷ []) (Ok tt)
