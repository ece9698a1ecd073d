-- `mount_parts::mounting::unrooted` meets its contract: each way through it by its law.
use Rattle.rules.specs.declared.codes.VfsError.TheVariants.{Inval, Full}
use Rattle.mount_parts.proofs.MountWays.{unrooted_ends}
use Rattle.mount_parts.proofs.mounting.unrooted.Goals as goal

pub returns-in-Some : goal.returns-in-Some
returns-in-Some c = unrooted_ends _ _ _ c.allocate-found.ensures Inval (rw c.in-Some.is)

pub returns-in-None : goal.returns-in-None
returns-in-None c = unrooted_ends _ _ _ c.allocate-found.ensures Full (rw c.in-None.is)
