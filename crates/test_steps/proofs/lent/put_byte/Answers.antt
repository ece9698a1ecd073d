-- `test_steps::lent::put_byte` meets its contract: by whether the place is there. Assumes nothing.
use Rattle.test_steps.proofs.Setting.{byte_is, byte_none}
use Rattle.test_steps.proofs.lent.put_byte.Goals as goal

pub returns-then-from-s : goal.returns-then-from-s
returns-then-from-s c = byte_is _ _ _ _ c.least-from.ensures _ _ c.if-from-s.true c.low8.ensures c.put_u8.ensures

pub returns-else-from-s : goal.returns-else-from-s
returns-else-from-s c = byte_none _ _ _ _ c.least-from.ensures c.if-from-s.false
