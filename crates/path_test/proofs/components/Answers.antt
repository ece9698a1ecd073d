-- `path_test::components` ends: each step goes further. Assumes nothing.
use Rattle.std.proofs.Common.{Some, ap, ◌∙◌, arith}
use Rattle.path.proofs.Steps.{step_of}
use Rattle.path_test.proofs.components.Goals as goal

pub loop-c-smaller-in-ParentDir : goal.loop-c-smaller-in-ParentDir
loop-c-smaller-in-ParentDir c =
    let g = step_of c.args.s.now c.loop-c.at c.next_component.ensures (c.in-Some.is ∙ ap Some c.in-ParentDir.is) in
    omega (arith, g.further, g.within)

pub loop-c-smaller : goal.loop-c-smaller
loop-c-smaller c =
    let g = step_of c.args.s.now c.loop-c.at c.next_component.ensures (c.in-Some.is ∙ ap Some c.in-Normal.is) in
    omega (arith, g.further, g.within)
