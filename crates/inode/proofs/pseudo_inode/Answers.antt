-- `inode::pseudo_inode` meets its contract: it joins index 0 and the node's number. Assumes nothing.
use Rattle.inode.proofs.pseudo_inode.Goals as goal

pub returns : goal.returns
returns c = c.joined.ensures
