-- The next component from here on is the one from `at` on.
use Rattle.std.proofs.Common.{◌≡◌}
use Rattle.path.specs.Steps.{next_component}
use Rattle.path.proofs.components.next_component.Given as goal

abbrev pub invariant-loop-i : goal.invariant-loop-i
invariant-loop-i l = next_component l.path l.i ≡ next_component l.path l.at
