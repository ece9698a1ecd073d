-- Each return is a test of the rule. Assumes nothing.
use mathlib.Core.Path.{sym}
use mathlib.Core.Logic.{⊎_elim}
use native.Mathlib.Omega.{arith}
use Rattle.storage.proofs.Refusals.{none_asked, too_many, by_bytes}
use Rattle.storage.proofs.is_small.Goals as goal

pub returns-then-n-lt1 : goal.returns-then-n-lt1
returns-then-n-lt1 c = sym (⊎_elim (λ h. none_asked _ _ (omega arith)) (λ h. too_many _ _ (omega arith) (omega arith)) c.then-n-lt1.either)

pub returns : goal.returns
returns c = by_bytes _ _ (omega arith) (omega arith)
