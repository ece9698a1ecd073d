-- The word up to the next space, and the others are left. Assumes nothing.
use Rattle.std.proofs.Common.{◌≡◌, sym, ap, length, List, ℕ, zero-le, arith, Some}
use Rattle.std.proofs.lemmas.Grind.{common_steps}
use Rattle.std.proofs.lemmas.List.{length-take-le}
use Rattle.path.proofs.Words.{end_in}
use Rattle.test_words.proofs.Finding.{words_more}
use Rattle.test_words.proofs.numbers.WordsIterator.next.Goals as goal

pub slice_bounds-result-end : goal.slice_bounds-result-end
slice_bounds-result-end c = sym (length-take-le _ _ (end_in _ _ _ c.part_end-end.ensures zero-le).1)

pub slice_bounds-get-count : goal.slice_bounds-get-count
slice_bounds-get-count c = (end_in _ _ _ c.part_end-end.ensures zero-le).1

pub slice_bounds-get-start : goal.slice_bounds-get-start
slice_bounds-get-start c = (end_in _ _ _ c.part_end-end.ensures zero-le).1

pub returns-clause-steps : goal.returns-clause-steps
returns-clause-steps c =
    let e : c.args.self.now.0 ≡ Some c.in_ok-s.s = cc in
    rw e (words_more c.in_ok-s.s.now _ c.get-self.result c.part_end-end.ensures c.get-self.ensures.lookup.0)

pub returns-clause-goes : goal.returns-clause-goes
returns-clause-goes c =
    let e : c.args.self.now.0 ≡ Some c.in_ok-s.s = cc in
    let m = words_more c.in_ok-s.s.now _ c.get-self.result c.part_end-end.ensures c.get-self.ensures.lookup.0 in
    let l = ap (λ (xs : List (List ℕ)). length xs) m in
    grind (arith, common_steps)
