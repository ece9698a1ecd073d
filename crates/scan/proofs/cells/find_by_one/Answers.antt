-- After the cells before i, none of which is the one sought, the cells that are left decide.
use Rattle.scan.proofs.First.{all_left, here_left, on_left, done_left, cell_here, cell_other}
use borrow.Author.Rules.{rules}
use Rattle.scan.proofs.cells.find_by_one.Goals as goal

pub loop-i-init : goal.loop-i-init
loop-i-init c = all_left _ _ _ (search rules)

pub returns-then-get_u64-mask : goal.returns-then-get_u64-mask
returns-then-get_u64-mask c =
    here_left _ _ _ _ c.loop-i.invariant (search rules) (cell_here _ _ _ _ _ _ c.get_u64.ensures c.if-get_u64-mask.true)

pub loop-i-preserved : goal.loop-i-preserved
loop-i-preserved c =
    on_left _ _ _ _ c.loop-i.invariant (search rules) (cell_other _ _ _ _ _ _ c.get_u64.ensures c.if-get_u64-mask.false)

pub returns : goal.returns
returns c = done_left _ _ _ _ c.loop-i.invariant (search rules)
