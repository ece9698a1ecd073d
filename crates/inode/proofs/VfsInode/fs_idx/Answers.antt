-- `inode::VfsInode::fs_idx` meets its contract. Assumes nothing.
use Rattle.rules.specs.Numbers.{index_of}
use borrow.Author.Rules.{rules}
use Rattle.inode.proofs.VfsInode.fs_idx.Goals as goal

pub returns : goal.returns
unfolding index_of
returns c = search rules
