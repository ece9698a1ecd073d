-- The well-formed sequence that bytes begin with.
use Rattle.std.specs.Prelude.{ℕ, cond, List, Option, Some, None, eqb}
use Rattle.rules.specs.Utf8.{sequence}

-- its length, where they begin with one (R35)
unfoldable pub sequence_in : List ℕ → Option ℕ
sequence_in s = cond (eqb (sequence s) 0) None (Some (sequence s))
