-- What taking an index for a tag does to the slots and the counter, and what it answers.
use Rattle.std.specs.Prelude.{◌≡◌, ℕ, List, slice_set, Option, None, Some}
use Rattle.rules.specs.Numbers.{or_zero}
use Rattle.rules.specs.Round.{allocate}
use Rattle.index.specs.Slots.{held_in_column}
use Rattle.index.specs.Search.{code_for, search_told}
use Rattle.index.specs.declared.FsIndexes.{FsIndexes}
use Rattle.index.specs.declared.Allocated.{Allocated}
use Rattle.index.specs.declared.AllocateAnswer.{AllocateAnswer}

-- the slots and the counter as one table
abbrev pub table_of : List ℕ → List ℕ → ℕ → FsIndexes
table_of used tags counter = record { used = used; tags = tags; next_super = counter }

-- what taking an index gives: its answer, and the slots and the counter after it
pub record Taken : Type 0 where
  pub answer : AllocateAnswer
  pub table : FsIndexes

-- a column of the slots with a value at the index found; where none is found it is as it was
abbrev pub put_at : Option ℕ → List ℕ → ℕ → List ℕ
put_at (Some i) column v = slice_set column i v
put_at None column v = column

-- the slot found is held, with the tag; the index answered is 0 where none is found (R90)
abbrev pub taken_of : FsIndexes → ℕ → Allocated → Taken
taken_of t tag a = record {
  answer = record { code = code_for a.answer; fs_idx = or_zero a.answer; count = a.count };
  table = table_of (put_at a.answer t.used 1) (put_at a.answer t.tags tag) a.next_super;
}

-- by the search of the rules over these slots, from the counter on (R80 to R84, R90)
unfoldable pub take_rule : FsIndexes → ℕ → Taken
take_rule t tag = taken_of t tag (search_told (allocate (held_in_column t.used) t.next_super))

-- the same where slots and counter are lent: the answer, and what the host finds after (R90, R177)
pub record Steps (before : FsIndexes) (tag : ℕ) (r : AllocateAnswer) (after : FsIndexes) : Type 0 where
  pub answer : r ≡ (take_rule before tag).answer
  pub table : after ≡ (take_rule before tag).table
