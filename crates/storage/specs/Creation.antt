-- Creation: what it writes, its answer's number, and its contract.
use Rattle.std.specs.Prelude.{ℕ, ◌^◌, ◌<◌, ◌≡◌, true, cond, List, [], ◌∷◌, ◌++◌, length, get_or, replicate, eqb, Result, Ok, Err}
use Rattle.le.specs.Mem.{write, bytes_of}
use Rattle.rules.specs.Numbers.{DONE}
use Rattle.rules.specs.Codes.{code_of}
use Rattle.rules.specs.declared.codes.VfsError.{VfsError}
use Rattle.rules.specs.Instance.{held_by, empty_slot, counter_of}
use Rattle.rules.specs.Create.{Creation, new_instance, create_rule}
use Rattle.rules.specs.claims.Driven.{Driven}
use Rattle.tables.specs.Layout.{occupancy_at, tags_at, header, mark_field}
use Rattle.tables.specs.View.{view}
use Rattle.tables.specs.Laid.{laid}
use Rattle.tables.specs.Write.{put_header}
use Rattle.storage.specs.Header.{spell, header_of}
use Rattle.vfs_options.specs.declared.VfsOptions.{VfsOptions}
use Rattle.vfs_options.specs.Given.{options_in}

-- what the arguments ask for (R26, R27)
abbrev pub creation_of : ℕ → ℕ → VfsOptions → Creation
creation_of n known o = record { capacity = n; known = known; options = options_in o }

-- the number of the answer (R15)
abbrev pub created_code : Result (Unit {0}) VfsError → ℕ
created_code (Ok t) = DONE
created_code (Err e) = code_of e

-- tags as they stand in their column
unfoldable pub tag_bytes : List ℕ → List ℕ
tag_bytes [] = []
tag_bytes (t ∷ ts) = bytes_of 4 t ++ tag_bytes ts

-- 256 slots, none held, each tag 0 (R31)
unfoldable pub empty_slots : List ℕ → List ℕ
empty_slots mem = write (write mem occupancy_at (replicate 256 0)) tags_at (replicate 1024 0)

-- the bytes of a new instance: its slots and its header; all others keep what they held
unfoldable pub create_mem : Creation → List ℕ → List ℕ
create_mem q mem = put_header mark_field (spell header (header_of (new_instance q))) (empty_slots mem)

-- the answer's number by the rule; the bytes exactly, as they were where it is refused; where it is done they keep the layout rule and stand for the new
-- instance, whatever they held, and in particular each of the 256 slots is there and empty (past the end a held one would be read) and the counter is 1
pub record Creates (mem : List ℕ) (q : Creation) (code : ℕ) (after : List ℕ) : Type 0 where
  pub answer : code ≡ create_rule (length mem) q
  pub bytes : after ≡ cond (eqb (create_rule (length mem) q) DONE) (create_mem q mem) mem
  pub keeps : code ≡ DONE → laid after ≡ true
  pub stands : code ≡ DONE → view after ≡ new_instance q
  pub slots : code ≡ DONE → (k : ℕ) → k < 256 → get_or (view after).indexes.slots k (held_by 0) ≡ empty_slot
  pub counter : code ≡ DONE → counter_of (view after) ≡ 1

-- the claim: after a done creation, whose mask is a number of 64 bits, the bytes stand for a driven instance
abbrev pub CreatesDriven : Type 0
CreatesDriven = (mem : List ℕ) (q : Creation) (after : List ℕ) → q.known < 2 ^ 64 → Creates mem q DONE after → Driven (view after)
