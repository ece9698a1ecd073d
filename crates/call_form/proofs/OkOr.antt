-- What `ok_or` says of the value that it asks for. Assumes nothing.
use mathlib.Core.Path.{◌≡◌, refl}
use Rattle.std.specs.Prelude.{Option, None, Some, Ok, Err, ok_or}

pub there : {A E : Type 0} (o : Option A) (d : E) (x : A) → ok_or o d ≡ Ok x → o ≡ Some x
there None d x q = cc
there (Some y) d x q = cc

pub missing : {A E : Type 0} (o : Option A) (d e : E) → ok_or o d ≡ Err e → (o ≡ None) × (e ≡ d)
missing None d e q = (refl, cc)
missing (Some y) d e q = cc
