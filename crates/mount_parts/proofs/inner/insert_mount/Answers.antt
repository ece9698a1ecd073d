-- `mount_parts::inner::insert_mount` meets its contract: row 7, or the mount of the request is placed.
use borrow.Author.Rules.{rules}
use Rattle.mount_parts.proofs.MountWays.{too_large, places_it}
use Rattle.mount_parts.proofs.inner.insert_mount.Goals as goal

pub returns-then-b-gt-VFS_MAX_INO : goal.returns-then-b-gt-VFS_MAX_INO
returns-then-b-gt-VFS_MAX_INO c = too_large _ _ _ _ c.requires.s_value c.if-b-gt-VFS_MAX_INO.true

pub returns : goal.returns
returns c = search (places_it, rules)
