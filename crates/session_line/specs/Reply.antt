-- What a line answers on bytes, and what it leaves of them: as the line that is read of it.
use Rattle.std.specs.Prelude.{ℕ, List}
use Rattle.rules.specs.Session.{parsed}
use Rattle.session_calls.specs.Answered.{line_text, line_mem}

-- its text (R137 to R152)
abbrev pub reply_text : List ℕ → List ℕ → List ℕ
reply_text mem line = line_text mem (parsed line)

-- the bytes after it
abbrev pub reply_mem : List ℕ → List ℕ → List ℕ
reply_mem mem line = line_mem (parsed line) mem
