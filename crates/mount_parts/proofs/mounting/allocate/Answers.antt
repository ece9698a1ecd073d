-- `mount_parts::mounting::allocate` meets its contract: the search, then its counter.
use native.Mathlib.Omega.{arith}
use borrow.Author.Rules.{rules}
use Rattle.tables.proofs.Keeps.{laid_long}
use Rattle.mount_parts.proofs.MountWays.{allocates}
use Rattle.mount_parts.proofs.mounting.allocate.Goals as goal

pub search-a-requires : goal.search-a-requires
search-a-requires c = omega (arith, laid_long _ c.requires)

pub set_counter-requires : goal.set_counter-requires
set_counter-requires c = omega (arith, laid_long _ c.requires)

pub returns : goal.returns
returns c = allocates _ c.requires (search rules) _ c.search-a.ensures _ c.set_counter.ensures
