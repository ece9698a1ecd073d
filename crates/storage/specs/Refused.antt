-- Demand 1 of the bytes: what a refused creation and a refused setting of `remove_pseudo_root` leave of the lent storage, by their contracts alone.
use Rattle.std.specs.Prelude.{ℕ, cond, List, ◌≡◌}
use Rattle.rules.specs.Numbers.{DONE}
use Rattle.rules.specs.Create.{Creation}
use Rattle.tables.specs.Laid.{laid}
use Rattle.tables.specs.Write.{set_removal}
use Rattle.call_form.specs.Form.{Told, Does}
use Rattle.storage.specs.Creation.{Creates}
use Rattle.storage.specs.Answers.{remove_call}

-- with any number but DONE, every byte is as it was (R15, R26, R32)
pub record EveryRefused : Type 0 where
  pub creation : (mem : List ℕ) (q : Creation) (code : ℕ) (after : List ℕ) → Creates mem q code after → (code ≡ DONE → ⊥) → after ≡ mem
  pub setting : (mem : List ℕ) (t : Told) (after : List ℕ) → Does mem remove_call t after (cond (laid mem) (set_removal mem) mem) → (t.code ≡ DONE → ⊥) → after ≡ mem
