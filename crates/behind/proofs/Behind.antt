-- The theorem: no answer depends on bytes behind those of an instance, and no call changes them (R23). Assumes nothing.
use Rattle.tables.proofs.Keeps.{laid_is}
use Rattle.behind.specs.Behind.{EveryStorage, EveryInstance, EveryCreation}
use Rattle.behind.proofs.Front.{view_front, laid_front, first_laid}
use Rattle.behind.proofs.Calls.{removal_front, mount_front, restore_front, unmount_front}
use Rattle.behind.proofs.State.{restored_front, create_front}

pub every_storage : EveryStorage
every_storage s e = first_laid s e

pub every_instance : EveryInstance
every_instance mem rest b e = record {
  keeps = laid_front rest mem e;
  stands = view_front rest mem (laid_is mem e);
  removal = removal_front rest mem e;
  mount = mount_front rest mem e b;
  restored_mount_lem = restore_front rest mem e b;
  unmount = unmount_front rest mem e b;
  state = λ saved. restored_front rest saved mem e;
}

pub every_creation : EveryCreation
every_creation q mem rest l = create_front rest q mem l
