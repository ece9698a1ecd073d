-- Either way the two runs are compared.
use Rattle.le.proofs.runs.same_at.Goals as goal

pub returns-then-len-lt8 : goal.returns-then-len-lt8
returns-then-len-lt8 c = c.same_short.ensures

pub returns : goal.returns
returns c = c.same_words.ensures
