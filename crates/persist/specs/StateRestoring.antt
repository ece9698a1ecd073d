-- What a state restore answers and leaves, by the rule on the instance that the bytes stand for.
use Rattle.std.specs.Prelude.{ℕ, cond, List, eqb, Result}
use Rattle.rules.specs.Numbers.{DONE}
use Rattle.rules.specs.declared.codes.VfsError.{VfsError}
use Rattle.rules.specs.Instance.{Instance}
use Rattle.rules.specs.Outcome.{nothing, Outcome}
use Rattle.rules.specs.Saved.{state_of}
use Rattle.rules.specs.StateRestore.{restore_state_rule}
use Rattle.tables.specs.View.{view}
use Rattle.tables.specs.Laid.{laid}
use Rattle.call_form.specs.Form.{Told, told_of, Does}
use Rattle.saved_restore.specs.Parts.{state_mem}

-- the number of each answer (R15, R128)
abbrev pub state_restored_told : Result (Unit {0}) VfsError → Told
state_restored_told = told_of (λ (t : Unit {0}). nothing)

-- the bytes after a state restore: every refusal leaves every one
unfoldable pub restore_state_mem : List ℕ → List ℕ → List ℕ
restore_state_mem b mem = cond (laid mem) (cond (eqb (restore_state_rule (view mem) b).code DONE) (state_mem (state_of b) mem) mem) mem

-- the rule for the saved bytes b (R128)
abbrev pub restoring_state : List ℕ → Instance → Outcome
restoring_state b i = restore_state_rule i b

-- b is restored into mem: r is answered, and the storage is `after` then
abbrev pub RestoresState : List ℕ → List ℕ → Result (Unit {0}) VfsError → List ℕ → Type 0
RestoresState mem b r after = Does mem (restoring_state b) (state_restored_told r) after (restore_state_mem b mem)
