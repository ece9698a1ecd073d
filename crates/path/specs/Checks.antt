-- The component check by the numbers of the refusals.
use Rattle.std.specs.Prelude.{ℕ, cond, List}
use Rattle.rules.specs.Numbers.{DONE, INVAL}
use Rattle.rules.specs.Path.{bad_component}

-- the number that the rules give
unfoldable pub check_code : List ℕ → ℕ
check_code p = cond (bad_component p) INVAL DONE
