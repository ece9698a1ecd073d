-- The writes, one after another, come to those of the rule. Assumes nothing.
use mathlib.Core.Path.{◌∙◌}
use Rattle.storage.proofs.Creation.{all_put}
use Rattle.storage.proofs.put_new.Goals as goal

pub returns : goal.returns
returns c =
    let a = c.args in
    c.put_rest.ensures
    ∙ (rw (c.put_mapping-2.ensures, c.put_mapping.ensures, c.put_words.ensures, c.put_slots.ensures)
    (all_put a.s.now a.n a.known a.o))
