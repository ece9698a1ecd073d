-- `test_view_sum::sum_of` meets its contract. Assumes nothing.
use Rattle.std.proofs.Common.{◌∙◌, refl, rules, arith}
use Rattle.std.proofs.lemmas.Iterator.{YieldsList-from_range}
use Rattle.std.proofs.lemmas.Iterator.Consumers.{fold_from_yields_List}
use Rattle.test_words.specs.Adler.{adler}
use Rattle.test_view_sum.specs.Viewed.{slot_bytes, row_bytes}
use Rattle.test_view_sum.proofs.Viewing.{pieces_fold, table_is}
use Rattle.test_view_sum.proofs.sum_of.Goals as goal

pub returns : goal.returns
returns c =
    table_is _ _ _ _ _ _ _ _ _ c.from_le_bytes-size.result c.from_le_bytes-count.result _ c.run-a.ensures c.byte_at.ensures c.flag-b.ensures c.byte_at-2.ensures c.flag-c.ensures c.byte_at-3.ensures c.mount-d.ensures
    (fold_from_yields_List _ (λ x k. adler x (slot_bytes c.args.s.now k)) _ _ c.fold-e.ensures.ran (YieldsList-from_range 0 256 256 refl refl) (λ a x b q k. search rules) ∙ pieces_fold (slot_bytes c.args.s.now) _ 256 0)
    (omega arith) (omega arith)
    (fold_from_yields_List _ (λ x i. adler x (row_bytes c.args.s.now c.from_le_bytes-size.result i)) _ _ c.fold.ensures.ran (YieldsList-from_range 0 c.from_le_bytes-count.result c.from_le_bytes-count.result refl (omega arith)) (λ a x b q k. search rules) ∙ pieces_fold (row_bytes c.args.s.now c.from_le_bytes-size.result) _ _ 0)
