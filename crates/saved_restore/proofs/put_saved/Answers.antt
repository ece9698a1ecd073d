-- The records first, then the header. Assumes nothing.
use native.Mathlib.Omega.{arith}
use Rattle.tables.proofs.Keeps.{laid_long}
use Rattle.saved.proofs.Accepted.{accepted_long}
use Rattle.saved_restore.proofs.StateTests.{saved_put}
use Rattle.saved_restore.proofs.put_saved.Goals as goal

pub next_of-requires : goal.next_of-requires
next_of-requires c = omega (arith, accepted_long _ c.requires.b_value)

pub counter_of-requires : goal.counter_of-requires
counter_of-requires c = omega (arith, accepted_long _ c.requires.b_value)

pub options_of-requires : goal.options_of-requires
options_of-requires c = accepted_long _ c.requires.b_value

pub put_state-requires : goal.put_state-requires
put_state-requires c = omega (arith, laid_long _ c.requires.s_value)

pub returns : goal.returns
returns c = saved_put _ _ _ _ _ _ _ c.next_of.ensures c.counter_of.ensures c.options_of.ensures c.load_records.ensures c.put_state.ensures
