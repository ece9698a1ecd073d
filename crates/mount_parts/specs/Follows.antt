-- What an inner function of a call tells and leaves.
use Rattle.std.specs.Prelude.{true, List, ◌≡◌, ℕ}
use Rattle.rules.specs.Outcome.{Outcome}
use Rattle.tables.specs.View.{view}
use Rattle.tables.specs.Laid.{laid}
use Rattle.call_form.specs.Form.{Told, told_by}

-- an outcome told, and the bytes after: exactly these, which stand for what it leaves and keep the layout rule
pub record Follows (o : Outcome) (exact : List ℕ) (t : Told) (after : List ℕ) : Type 0 where
  pub told : t ≡ told_by o
  pub bytes : after ≡ exact
  pub stands : view after ≡ o.after
  pub keeps : laid after ≡ true
