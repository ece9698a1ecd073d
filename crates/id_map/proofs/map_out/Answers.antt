-- One case of the rule for each way.
use Rattle.std.proofs.Common.{arith}
use Rattle.id_map.proofs.Moves.{moves, stays_below, stays_beyond}
use Rattle.id_map.proofs.map_out.Goals as goal
use Rattle.id_map.proofs.map_out.Goals.{else-m-id-via-then-m-id+else-id-m, else-m-id-via-else-m-id}

pub returns-then-id-m : goal.returns-then-id-m
returns-then-id-m c = moves _ _ c.if-m-id.true c.if-id-m.true (omega arith)

pub returns-else-m-id : goal.returns-else-m-id
returns-else-m-id c =
    elim c.else-m-id.branch [
      | else-m-id-via-then-m-id+else-id-m w ↦ stays_beyond _ _ w.if-m-id.true w.if-id-m.false
      | else-m-id-via-else-m-id w ↦ stays_below _ _ w.if-m-id.false
    ]
