-- `test_words::hex::pairs` meets its contract. Assumes nothing.
use Rattle.std.proofs.Common.{◌≡◌, arith, drop, refl, sym, ap, ◌∙◌}
use Rattle.test_words.proofs.Filling.{rest_all, ended, full, one_more}
use Rattle.test_words.proofs.Spelling.{from_get, bytes_end, bytes_stop, bytes_more}
use Rattle.test_words.proofs.hex.pairs.Goals as goal

pub loop-n-init : goal.loop-n-init
loop-n-init c =
    let e : c.unwrap_or-rest.result.now ≡ drop c.args.at c.args.s.now = ap (λ r. r.now) c.unwrap_or-rest.ensures ∙ from_get c.args.s.now c.args.at c.get.result _ c.get.ensures.lookup.0 refl in
    rw e (rest_all _ _ _)

pub returns-in_default : goal.returns-in_default
returns-in_default c = ended _ (omega arith) (bytes_end _ (omega arith)) c.loop-n.invariant

pub returns-in_default-pair : goal.returns-in_default-pair
returns-in_default-pair c = ended _ (omega arith) (bytes_stop _ (sym c.pair.ensures ∙ c.in_default-pair.is)) c.loop-n.invariant

pub loop-n-preserved : goal.loop-n-preserved
loop-n-preserved c = one_more _ _ (omega arith) (bytes_more _ _ (omega arith) (sym c.pair.ensures ∙ c.in-Some.is)) c.loop-n.invariant

pub returns : goal.returns
returns c = full _ (omega arith) (omega arith) c.loop-n.invariant
