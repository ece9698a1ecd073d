-- The first fault of a path has the number that the rule answers. Assumes nothing.
use mathlib.Core.Path.{◌≡◌, refl}
use mathlib.Core.Bool.{Bool, true, false, cond, not, ◌||◌}
use mathlib.Core.List.{[], ◌∷◌}
use Rattle.std.specs.Prelude.{None, Some}
use Rattle.rules.specs.Numbers.{DONE, INVAL}
use Rattle.rules.specs.Utf8.{well_formed}
use Rattle.rules.specs.Path.{rooted}
use Rattle.rules.specs.Outcome.{◌⟹◌, first_of}
use Rattle.rules.specs.Reached.{bad_path}
use Rattle.pseudo_fs.specs.declared.PathFault.TheVariants.{Utf8, Slash}
use Rattle.pseudo_fs.specs.Told.{fault_of, fault_code, EveryFault}

by_tests : (w r : Bool) → fault_code (first_of ((not w ⟹ Some Utf8) ∷ (not r ⟹ Some Slash) ∷ []) None) ≡ cond (not w || not r) INVAL DONE
unfolding first_of fault_code
by_tests true true = refl
by_tests true false = refl
by_tests false r = refl

pub every_fault : EveryFault
unfolding fault_of bad_path
every_fault path = by_tests (well_formed path) (rooted path)
