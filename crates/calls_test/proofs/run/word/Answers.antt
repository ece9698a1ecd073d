-- `calls_test::run::word` is safe: the word lies in the bytes. Assumes nothing.
use Rattle.std.proofs.Common.{sym, zero-le}
use Rattle.std.proofs.lemmas.List.{length-take-le}
use Rattle.path.proofs.Words.{end_in}
use Rattle.calls_test.proofs.run.word.Goals as goal

pub slice_bounds-result-end : goal.slice_bounds-result-end
slice_bounds-result-end c = sym (length-take-le _ _ (end_in _ _ _ c.part_end.ensures zero-le).1)
