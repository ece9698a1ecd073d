-- After some of the bytes, whether the test holds at one of them.
use mathlib.Core.Path.{◌≡◌, refl}
use Rattle.std.specs.List.{list_any}
use Rattle.std.proofs.Common.{rules}
use Rattle.std.proofs.iter.Yields.{fronts}
use Rattle.std.proofs.lemmas.Fn.{fold_over}
use Rattle.std.proofs.lemmas.Iterator.{YieldsList-from_slice}
use Rattle.scan.proofs.Asked.{any_push}
use Rattle.scan.proofs.bytes.any_together.Goals as goal

pub returns : goal.returns
returns g c = λ f says.
    fold_over fronts (λ y. y.now) _ (λ ys a. a ≡ list_any f ys) _ (λ ys a x b q j k. (search (rules, any_push, says), search rules)) c.iter.result _ _ _ (YieldsList-from_slice {s = c.iter.result} c.args.s.now c.iter.ensures.rest).runs refl c.fold.ensures.ran
