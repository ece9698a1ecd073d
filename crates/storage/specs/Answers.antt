-- What the answers of the calls on the header tell, and their rules.
use Rattle.std.specs.Prelude.{Bool, Result}
use Rattle.rules.specs.declared.codes.VfsError.{VfsError}
use Rattle.rules.specs.Instance.{Instance}
use Rattle.rules.specs.Outcome.{nothing, settings, truth, Outcome}
use Rattle.rules.specs.Calls.{set_remove_pseudo_root, ask, options, initialized, rule}
use Rattle.call_form.specs.Form.{Told, told_of}
use Rattle.vfs_options.specs.declared.VfsOptions.{VfsOptions}
use Rattle.vfs_options.specs.Given.{options_in}

-- ---- the rules of the three calls

-- the setting of `remove_pseudo_root` (R32)
abbrev pub remove_call : Instance → Outcome
remove_call i = rule i set_remove_pseudo_root

-- the query of `initialized` (R33)
abbrev pub initialized_call : Instance → Outcome
initialized_call i = rule i (ask initialized)

-- the query of the options (R33)
abbrev pub options_call : Instance → Outcome
options_call i = rule i (ask options)

-- ---- number and values of each answer

-- of the setting (R32)
abbrev pub removal_told : Result (Unit {0}) VfsError → Told
removal_told = told_of (λ (t : Unit {0}). nothing)

-- of the query of `initialized` (R33, R134)
abbrev pub initialized_told : Result Bool VfsError → Told
initialized_told = told_of truth

-- of the query of the options (R27, R33, R34)
abbrev pub options_told : Result VfsOptions VfsError → Told
options_told = told_of (λ (o : VfsOptions). settings (options_in o))
