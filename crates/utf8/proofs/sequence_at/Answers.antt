-- At each return the tests say of which row the first byte is.
use mathlib.Core.Path.{◌∙◌}
use native.Mathlib.Omega.{arith}
use Rattle.rules.specs.Utf8.{table, fits}
use Rattle.utf8.proofs.Table.{row_some, gap_none, end_none}
use Rattle.utf8.proofs.sequence_at.Goals as goal
use Rattle.utf8.proofs.sequence_at.Goals.{else-b-ge194-via-then-b-ge194+else-b-lt224, else-b-ge194-via-else-b-ge194, else-b-ge225-via-then-b-ge225+else-b-lt237, else-b-ge225-via-else-b-ge225}

pub returns-in_err-b : goal.returns-in_err-b
returns-in_err-b c = c.from_residual.ensures ∙ end_none c.args.s.now c.args.at c.in_err-b.ensures.lookup.3

pub returns-then-b-lt128 : goal.returns-then-b-lt128
unfolding table fits
returns-then-b-lt128 c = let l = c.in_ok-b.ensures.lookup.3 in row_some _ _ l.0 0 (omega (arith, l.1 0))

pub returns-then-b-lt224 : goal.returns-then-b-lt224
unfolding table fits
returns-then-b-lt224 c = let l = c.in_ok-b.ensures.lookup.3 in c.tailed.ensures ∙ row_some _ _ l.0 1 (omega (arith, l.1 0))

pub returns-then-b-lt237 : goal.returns-then-b-lt237
unfolding table fits
returns-then-b-lt237 c = let l = c.in_ok-b.ensures.lookup.3 in c.tailed-then-b-lt237.ensures ∙ row_some _ _ l.0 3 (omega (arith, l.1 0))

pub returns-then-b-lt224-2 : goal.returns-then-b-lt224-2
unfolding table fits
returns-then-b-lt224-2 c =
    let l = c.in_ok-b.ensures.lookup.3 in
    elim c.else-b-ge194.branch [
      | else-b-ge194-via-then-b-ge194+else-b-lt224 w ↦ absurd (omega arith)
      | else-b-ge194-via-else-b-ge194 w ↦ gap_none _ _ l.0 1 (omega (arith, l.1 0))
    ]

pub returns-then-b-lt225 : goal.returns-then-b-lt225
unfolding table fits
returns-then-b-lt225 c = let l = c.in_ok-b.ensures.lookup.3 in c.tailed-then-b-lt225.ensures ∙ row_some _ _ l.0 2 (omega (arith, l.1 0))

pub returns-then-b-lt238 : goal.returns-then-b-lt238
unfolding table fits
returns-then-b-lt238 c =
    let l = c.in_ok-b.ensures.lookup.3 in
    elim c.else-b-ge225.branch [
      | else-b-ge225-via-then-b-ge225+else-b-lt237 w ↦ c.tailed-then-b-lt238.ensures ∙ row_some _ _ l.0 4 (omega (arith, l.1 0))
      | else-b-ge225-via-else-b-ge225 w ↦ absurd (omega arith)
    ]

pub returns-then-b-lt240 : goal.returns-then-b-lt240
unfolding table fits
returns-then-b-lt240 c = let l = c.in_ok-b.ensures.lookup.3 in c.tailed-then-b-lt240.ensures ∙ row_some _ _ l.0 5 (omega (arith, l.1 0))

pub returns-then-b-lt241 : goal.returns-then-b-lt241
unfolding table fits
returns-then-b-lt241 c = let l = c.in_ok-b.ensures.lookup.3 in c.tailed-then-b-lt241.ensures ∙ row_some _ _ l.0 6 (omega (arith, l.1 0))

pub returns-then-b-lt244 : goal.returns-then-b-lt244
unfolding table fits
returns-then-b-lt244 c = let l = c.in_ok-b.ensures.lookup.3 in c.tailed-then-b-lt244.ensures ∙ row_some _ _ l.0 7 (omega (arith, l.1 0))

pub returns-then-b-lt245 : goal.returns-then-b-lt245
unfolding table fits
returns-then-b-lt245 c = let l = c.in_ok-b.ensures.lookup.3 in c.tailed-then-b-lt245.ensures ∙ row_some _ _ l.0 8 (omega (arith, l.1 0))

pub returns : goal.returns
unfolding table fits
returns c = let l = c.in_ok-b.ensures.lookup.3 in gap_none _ _ l.0 9 (omega (arith, l.1 0))
