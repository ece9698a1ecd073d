-- The layout rule is kept where the walk begins.
use Rattle.tables.proofs.Keeps.{laid_is}
use Rattle.pseudo_fs.proofs.path_walk.Goals as goal

pub walk-requires : goal.walk-requires
walk-requires c = laid_is _ c.in_ok-check_laid.ensures
