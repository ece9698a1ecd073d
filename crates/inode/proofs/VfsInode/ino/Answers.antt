-- `inode::VfsInode::ino` meets its contract. Assumes nothing.
use Rattle.rules.specs.Numbers.{number_of}
use borrow.Author.Rules.{rules}
use Rattle.inode.proofs.VfsInode.ino.Goals as goal

pub returns : goal.returns
unfolding number_of
returns c = search rules
