-- `test_words::hex::decoded` meets its contract. Assumes nothing.
use Rattle.std.proofs.Common.{arith, sym, ◌∙◌}
use Rattle.test_words.proofs.Filling.{rest_all, ended, full, one_more}
use Rattle.test_words.proofs.Spelling.{percents_end, percents_plain, percents_spelt, front_long}
use Rattle.test_words.proofs.hex.decoded.Goals as goal
use Rattle.test_words.proofs.hex.decoded.Goals.{in-Some, in-None}

pub loop-n-init : goal.loop-n-init
loop-n-init c = rest_all _ _ _

pub returns-in_default : goal.returns-in_default
returns-in_default c = ended _ (omega arith) (percents_end _ (omega arith)) c.loop-n.invariant

pub slice_bounds-byte-count : goal.slice_bounds-byte-count
slice_bounds-byte-count c = front_long _ _ (sym c.escaped.ensures ∙ c.in-Some.is)

pub slice_bounds-byte-start : goal.slice_bounds-byte-start
slice_bounds-byte-start c = front_long _ _ (sym c.escaped.ensures ∙ c.in-Some.is)

pub loop-n-preserved : goal.loop-n-preserved
loop-n-preserved c =
    elim c.match-escaped.branch [
      | in-Some w ↦ rw w.byte-is (one_more _ _ (omega arith) (percents_spelt _ _ (sym c.escaped.ensures ∙ w.in-Some.is)) c.loop-n.invariant)
      | in-None w ↦ rw w.byte-is (one_more _ _ (omega arith) (percents_plain _ (omega arith) (sym c.escaped.ensures ∙ w.in-None.is)) c.loop-n.invariant)
    ]

pub returns : goal.returns
returns c = full _ (omega arith) (omega arith) c.loop-n.invariant
