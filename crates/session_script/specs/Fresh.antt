-- The session of the program: a fresh instance of 64 nodes, and then any cutting of the input.
use Rattle.std.specs.Prelude.{ℕ, List, ◌≡◌, length}
use Rattle.rules.specs.Create.{Creation}
use Rattle.rules.specs.Whole.{plain, session}
use Rattle.storage.specs.Creation.{creation_of, Creates}
use Rattle.session_script.specs.Runs.{Feed, Finish, FeedRun, written, Read, Loop, input_of, feeds_of}

-- 64 nodes, no option bits, no mapping (R137)
abbrev pub session_creation : Creation
session_creation = creation_of 64 0 (record { in_opts = 0; out_opts = 0; id_mapping = record { internal = 0; external = 0; range = 0 }; flags = 0 })

-- on 40,960 bytes, whatever they held: all that is written is what the rules write for the input on a new instance of 64 nodes (R137, R150, R151)
abbrev pub EverySession : Type 0
EverySession = (input before mem carry : List ℕ) (code : ℕ) (ss : List Feed) (f : Finish) → length before ≡ 40960 → Creates before session_creation code mem → FeedRun input mem carry 0 ss f
    → written ss f ≡ (session (plain 64) input).text

-- the same of the program's loop, with its output of 65,536 bytes, on any reads
abbrev pub EveryProgram : Type 0
EveryProgram = (before mem carry : List ℕ) (code : ℕ) (rs : List Read) (f : Finish) → length before ≡ 40960 → Creates before session_creation code mem → Loop 65536 mem carry 0 rs f
    → written (feeds_of rs) f ≡ (session (plain 64) (input_of rs)).text
