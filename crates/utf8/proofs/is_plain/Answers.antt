-- The length, and the bytes by the test.
use Rattle.std.proofs.Common.{rules}
use borrow.Author.Tests.{tests, le-leb}
use Rattle.utf8.specs.Plain.{not_plain, plain_long}
use Rattle.utf8.proofs.is_plain.Goals as goal

pub returns-then-s-ge8 : goal.returns-then-s-ge8
unfolding not_plain plain_long
returns-then-s-ge8 c = rw (c.any_byte.ensures not_plain (λ b r p. search (rules, tests)), le-leb 8 _ c.if-s-ge8.true)

pub returns-else-s-ge8 : goal.returns-else-s-ge8
unfolding plain_long
returns-else-s-ge8 c = search (rules, tests)
