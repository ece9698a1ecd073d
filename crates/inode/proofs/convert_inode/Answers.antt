-- `inode::convert_inode` meets its contract: it joins the index and the number that it was given. Assumes nothing.
use Rattle.inode.proofs.convert_inode.Goals as goal

pub returns : goal.returns
returns c = c.joined.ensures
