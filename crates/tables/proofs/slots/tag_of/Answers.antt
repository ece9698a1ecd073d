-- The occupancy byte says which; the tag is the number of its cell.
use Rattle.tables.proofs.Indexes.{tag_empty, tag_held}
use Rattle.tables.proofs.slots.tag_of.Goals as goal

pub returns-then-get_u8-eq-EMPTY : goal.returns-then-get_u8-eq-EMPTY
returns-then-get_u8-eq-EMPTY c = tag_empty _ _ (cc)

pub returns : goal.returns
returns c =
    let a = c.args in
    rw (c.get_u32.ensures, c.tag_at.ensures) (tag_held a.s.now a.k (λ e. c.if-get_u8-eq-EMPTY.false (cc)))
