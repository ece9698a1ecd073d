-- A byte is its own clone, and the part has the length of the run.
use mathlib.Core.Path.{◌≡◌, ◌∙◌, ap}
use Prim.Native.Nat.{ℕ, ◌+◌, ◌-◌}
use native.Mathlib.Omega.{arith}
use lib.ListN.{replicate, length-replicate}
use Rattle.std.proofs.lemmas.List.Edits.{length-between}
use Rattle.le.proofs.Slices.{part_written}
use borrow.Author.Rules.{rules}
use Rattle.le.proofs.runs.fill_at.Goals as goal

pub returns : goal.returns
returns c =
    let a = c.args in
    let z : a.at + a.len - a.at ≡ a.len = omega arith in
    part_written a.dst.now _ _ a.at a.len (search rules) (length-replicate a.len a.v)
    (c.fill.ensures.after (λ y e. e) ∙ ap (λ (n : ℕ). replicate n a.v) (length-between a.dst.now a.at (a.at + a.len) (search rules) ∙ z))
