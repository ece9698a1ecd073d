-- To close up the columns that are left gives what closing up all gives.
use mathlib.Core.Path.{ap, ◌∙◌}
use mathlib.Core.List.{List}
use native.Mathlib.Omega.{arith}
use Rattle.tables.specs.Table.{Col, close_up}
use Rattle.tables.proofs.Writes.{columns_are, closing_on, closing_ends}
use Rattle.tables.proofs.rows.close_up.Goals as goal

pub loop-c-preserved : goal.loop-c-preserved
loop-c-preserved c = closing_on _ _ _ _ _ _ _ c.loop-c.invariant _ c.loop-c-test.true _ c.at.ensures _ c.shift_down.ensures

pub returns : goal.returns
returns c =
    closing_ends _ _ _ _ _ _ _ c.loop-c.invariant (omega arith) ∙ ap (λ (cs : List Col). close_up cs c.args.s.now c.args.k c.args.m) (columns_are c.args.n)
