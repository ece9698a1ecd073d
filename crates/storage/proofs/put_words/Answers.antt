-- The cells 0 to 6 are written. Assumes nothing.
use mathlib.Core.Path.{◌∙◌}
use Rattle.storage.proofs.Creation.{words_put}
use Rattle.storage.proofs.put_words.Goals as goal

pub returns : goal.returns
returns c =
    let a = c.args in
    c.put_u64-7.ensures
    ∙ rw (c.put_u64-6.ensures, c.put_u64-5.ensures, c.put_u64-4.ensures, c.put_u64-3.ensures, c.put_u64-2.ensures, c.put_u64.ensures)
    (words_put a.s.now a.n a.known a.in_opts a.out_opts)
