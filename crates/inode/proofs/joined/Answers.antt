-- `inode::joined` meets its contract: one case of the conversion at each return. Assumes nothing.
use mathlib.Core.Path.{refl}
use native.Mathlib.Omega.{arith}
use Rattle.inode.proofs.Convert.{too_big, of_zero, joined}
use Rattle.inode.proofs.joined.Goals as goal

pub returns-then-number-gt-VFS_MAX_INO : goal.returns-then-number-gt-VFS_MAX_INO
returns-then-number-gt-VFS_MAX_INO c = too_big _ _ c.if-number-gt-VFS_MAX_INO.true

pub returns-then-number-eq0 : goal.returns-then-number-eq0
returns-then-number-eq0 c = of_zero _ _ _ c.if-number-eq0.true refl

pub returns : goal.returns
returns c = joined _ _ _ c.if-number-gt-VFS_MAX_INO.false c.if-number-eq0.false (omega arith)
