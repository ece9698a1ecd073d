-- The number is converted, and each id is mapped twice.
use mathlib.Core.Path.{ap, ◌∙◌}
use mathlib.Core.Bool.{true}
use native.Mathlib.Omega.{arith}
use borrow.Author.Rules.{rules}
use Rattle.rules.specs.Numbers.{or_zero}
use Rattle.tables.proofs.Keeps.{laid_long}
use Rattle.vfs_query.proofs.Rules.{goes}
use Rattle.vfs_query.proofs.Looks.{root_made}
use Rattle.vfs_query.proofs.root_entry.Goals as goal

pub mapping-mapping-requires : goal.mapping-mapping-requires
mapping-mapping-requires c = laid_long _ c.requires

pub returns : goal.returns
returns c =
    let l = c.requires in
    let m = c.mapping-mapping.ensures in
    root_made _ _ _ _ _ _ _ (c.or_zero.ensures ∙ ap or_zero c.convert_inode.ensures.full)
    (goes c.args.s.now l c.args.m.uid (omega arith) _ c.out.result m true (search rules)) (goes c.args.s.now l c.args.m.gid (omega arith) _ c.out-3.result m true (search rules))
    (goes c.args.s.now l c.out.result (omega arith) _ c.out-2.result m true (search rules)) (goes c.args.s.now l c.out-3.result (omega arith) _ c.out-4.result m true (search rules))
