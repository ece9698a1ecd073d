-- Each return goes by the tests that led there.
use Rattle.std.proofs.Common.{arith}
use Rattle.std.proofs.lemmas.Bool.Decides.{nat_tests}
use Rattle.std.proofs.lemmas.Grind.{common_steps}
use Rattle.rules.specs.Session.{is_digit}
use Rattle.decimal.specs.Read.{more}
use Rattle.decimal.proofs.one_more.Goals as goal

pub returns-then-not-is_ascii_digit : goal.returns-then-not-is_ascii_digit
unfolding more is_digit
returns-then-not-is_ascii_digit c = grind (arith, nat_tests, common_steps)

pub returns-in_err-checked_mul : goal.returns-in_err-checked_mul
unfolding more is_digit
returns-in_err-checked_mul c = grind (arith, nat_tests, common_steps)

pub returns-in_err-v : goal.returns-in_err-v
unfolding more is_digit
returns-in_err-v c = grind (arith, nat_tests, common_steps)

pub returns : goal.returns
unfolding more is_digit
returns c = grind (arith, nat_tests, common_steps)
