-- The byte is the header's cell 15.
use mathlib.Core.Path.{ap}
use mathlib.Core.Bool.{not}
use Prim.Native.Nat.{ℕ}
use lib.Dec.{eqb}
use Rattle.le.specs.Mem.{get}
use Rattle.tables.specs.Table.{row}
use Rattle.tables.proofs.header.removes.Goals as goal

pub returns : goal.returns
unfolding get row
returns c = ap (λ (b : ℕ). not (eqb b 0)) c.get_u8.ensures
