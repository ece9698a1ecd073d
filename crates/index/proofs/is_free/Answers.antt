-- An index is free where it is not 0 and its occupancy byte, 0 past the end, is 0.
use Rattle.std.proofs.Common.{◌≡◌, ℕ, eqb, get_or, ap, ◌∙◌, arith}
use Rattle.std.specs.Prelude.{Option, unwrap_or}
use Rattle.index.proofs.Answers.{free_at}
use Rattle.index.proofs.is_free.Goals as goal

pub returns-then-index-ne-VFS_PSEUDO_FS_IDX : goal.returns-then-index-ne-VFS_PSEUDO_FS_IDX
returns-then-index-ne-VFS_PSEUDO_FS_IDX c =
    let byte : c.unwrap_or-occupancy.result ≡ get_or c.args.used.now c.args.index 0 =
    c.unwrap_or-occupancy.ensures ∙ ap (λ (o : Option ℕ). unwrap_or o 0) c.copied.ensures ∙ c.get.ensures.lookup.4 (omega arith) 0 in
    ap (λ (b : ℕ). eqb b 0) byte ∙ free_at _ _ c.if-index-ne-VFS_PSEUDO_FS_IDX.true
