-- A refused creation and a refused setting leave every byte. Assumes nothing.
use mathlib.Core.Path.{◌≡◌, refl, ◌∙◌}
use mathlib.Core.Bool.{Bool, true, false, cond}
use mathlib.Core.List.{List}
use Prim.Native.Nat.{ℕ}
use lib.ListN.{length}
use borrow.Author.Tests.{ne_eqb}
use Rattle.rules.specs.Numbers.{DONE}
use Rattle.rules.specs.Calls.{rule}
use Rattle.rules.specs.Create.{create_rule}
use Rattle.tables.specs.Laid.{laid}
use Rattle.tables.specs.Write.{set_removal}
use Rattle.call_form.specs.Form.{Told, answered_by}
use Rattle.storage.specs.Answers.{remove_call}
use Rattle.storage.specs.Refused.{EveryRefused}
use Rattle.storage.proofs.Laid.{told_by_lem}

-- the setting is done wherever the layout rule is kept
set_leaves : (mem : List ℕ) (t : Told) → t ≡ answered_by mem remove_call → (t.code ≡ DONE → ⊥) → (b : Bool) → laid mem ≡ b → cond b (set_removal mem) mem ≡ mem
unfolding rule
set_leaves mem t e n true l = absurd (n (λ i. ((e ∙ told_by_lem mem remove_call l) i).code))
set_leaves mem t e n false l = refl

pub refused_leaves : EveryRefused
refused_leaves = record {
  creation = λ mem q code after c n. c.bytes ∙ rw (ne_eqb (create_rule (length mem) q) DONE (λ e. n (c.answer ∙ e)));
  setting = λ mem t after c n. c.bytes ∙ set_leaves mem t c.answer n (laid mem) refl;
}
