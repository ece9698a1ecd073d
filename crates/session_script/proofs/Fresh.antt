-- The program's creation is done, and the theorem on any cutting goes on from it. Assumes nothing.
use Prim.Native.Nat.{ℕ}
use mathlib.Core.Path.{◌≡◌, ◌∙◌}
use lib.ListN.{length}
use Rattle.rules.specs.Ids.{bad_mapping}
use Rattle.rules.specs.Outcome.{first_of}
use Rattle.rules.specs.Create.{too_small, outside, unknown, bad_options, create_rule}
use Rattle.rules.specs.Whole.{session}
use Rattle.session_script.specs.Runs.{WholeOf, input_of, feeds_of}
use Rattle.session_script.specs.Fresh.{session_creation, EverySession, EveryProgram}
use Rattle.session_script.proofs.Runs.{every_cutting}
use Rattle.session_script.proofs.Loops.{every_loop}

created : (bytes : ℕ) → bytes ≡ 40960 → create_rule bytes session_creation ≡ 0
unfolding create_rule first_of too_small bad_options unknown outside bad_mapping
created bytes e = rw e

pub every_session : EverySession
every_session input before mem carry code ss f e c run =
    let done : code ≡ 0 = c.answer ∙ created (length before) e in
    let w : WholeOf input mem ss f = every_cutting input mem carry ss f (c.keeps done) run in
    w.text ∙ (λ j. (session (c.stands done j) input).text)

pub every_program : EveryProgram
every_program before mem carry code rs f e c loop =
    let done : code ≡ 0 = c.answer ∙ created (length before) e in
    let w : WholeOf (input_of rs) mem (feeds_of rs) f = every_loop 65536 mem carry rs f (c.keeps done) loop in
    w.text ∙ (λ j. (session (c.stands done j) (input_of rs)).text)
