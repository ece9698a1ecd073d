-- A slash and a dropped part are passed over; the first other part is the component.
use Rattle.std.proofs.Common.{sym, ◌∙◌, arith}
use Rattle.rules.specs.Path.{slash}
use Rattle.path.proofs.Words.{end_behind}
use Rattle.path.proofs.Steps.{next_slash, next_dropped, next_kept, next_end}
use Rattle.path.proofs.components.next_component.Goals as goal

pub loop-i-preserved-then-path-i-eq47 : goal.loop-i-preserved-then-path-i-eq47
loop-i-preserved-then-path-i-eq47 c = sym (next_slash _ _ c.loop-i-test.true c.if-path-i-eq47.true) ∙ c.loop-i.invariant

pub component_at-requires : goal.component_at-requires
component_at-requires c =
    end_behind slash c.args.path.now c.loop-i.i c.part_end-end.ensures (omega arith) c.if-path-i-eq47.false

pub returns-in-Some : goal.returns-in-Some
returns-in-Some c = sym (next_kept _ _ c.loop-i-test.true c.part_end-end.ensures c.component_at.ensures c.in-Some.is) ∙ c.loop-i.invariant

pub loop-i-preserved : goal.loop-i-preserved
loop-i-preserved c = sym (next_dropped _ _ c.loop-i-test.true c.part_end-end.ensures c.component_at.ensures c.in_default.is) ∙ c.loop-i.invariant

pub returns : goal.returns
returns c = sym (next_end _ _ c.loop-i-test.false) ∙ c.loop-i.invariant
