-- Reading the whole is reading the rest behind `n`, which is at most `max`.
use Rattle.std.proofs.Common.{◌≡◌, ◌≤◌, drop}
use Rattle.decimal.specs.Read.{number_to}
use Rattle.decimal.proofs.Steps.{read_from}
use Rattle.decimal.proofs.read.Given as goal

abbrev pub invariant-loop-b : goal.invariant-loop-b
invariant-loop-b l = (l.n ≤ l.max) × (number_to l.max l.s ≡ read_from l.max l.n (drop l.b-index l.s))
