-- `inode::VfsInode::is_pseudo_fs` meets its contract. Assumes nothing.
use mathlib.Core.Path.{ap}
use Prim.Native.Nat.{ℕ}
use lib.Dec.{eqb}
use Rattle.inode.proofs.VfsInode.is_pseudo_fs.Goals as goal

pub returns : goal.returns
returns c = ap (λ (i : ℕ). eqb i 0) c.fs_idx.ensures
