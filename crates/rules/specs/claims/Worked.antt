-- The eight session lines and the five edges, as one table of lines and answers under one statement.
use Rattle.std.specs.Prelude.{ℕ, ◌≡◌, List, [], ◌∷◌, ◌++◌, replicate, set}
use Prim.Native.String.{String}
use Rattle.rules.specs.Numbers.{slot_count}
use Rattle.rules.specs.Bytes.{ascii}
use Rattle.rules.specs.Instance.{Slot, Instance, with_indexes, empty_slot, held_by, counter_of}
use Rattle.rules.specs.Whole.{plain, line_end, session}

-- with these slots and this counter (R154 to R156)
abbrev pub holding : List Slot → ℕ → Instance
holding slots c = with_indexes (record { slots = slots; counter = c }) (plain 64)

-- every slot is held (R156)
abbrev pub all_held : List Slot
all_held = replicate slot_count (held_by 7)

infix 20 ◌⟿◌
-- a line, and its answer
pub record Said : Type 0 where
  pub line : String
  pub answer : String

-- the line is answered so
abbrev pub ◌⟿◌ : String → String → Said
l ⟿ a = record { line = l; answer = a }

-- an instance, what is said to it and answered, and the counter it ends with
pub record Case : Type 0 where
  pub from : Instance
  pub said : List Said
  pub counter : ℕ

-- the eight lines (R153), then the five edges (R154, R155, R156, R157, R158)
abbrev pub cases : List Case
cases =
    record {
      from = plain 64;
      said =
          ("walk /a" ⟿ "0 0")
          ∷ ("mount /a/b 7 1 1000" ⟿ "0 1 1")
          ∷ ("mount a 8 1 1000" ⟿ "2 0 1")
          ∷ ("mount /a/b 9 1 1000" ⟿ "0 3 1")
          ∷ ("umount /a/b" ⟿ "0 3 2")
          ∷ ("umount /a/b" ⟿ "7 0 0")
          ∷ ("mount /c/../a 7 1 1000" ⟿ "0 4 1")
          ∷ ("look 1 a" ⟿ "0 288230376151711745")
          ∷ [];
      counter = 5;
    }
    ∷ record { from = holding (set all_held 1 empty_slot) 255; said = ("mount / 7 1 1000" ⟿ "0 1 3") ∷ []; counter = 2 }
    ∷ record { from = holding (set all_held 255 empty_slot) 0; said = ("mount / 7 1 1000" ⟿ "0 255 256") ∷ []; counter = 0 }
    ∷ record { from = holding all_held 255; said = ("mount / 7 1 1000" ⟿ "5 0 257") ∷ []; counter = 0 }
    ∷ record {
      from = plain 64;
      said = ("mount / 7 72057594037927935 1000" ⟿ "0 1 1") ∷ ("mount / 7 72057594037927936 1000" ⟿ "4 0 1") ∷ [];
      counter = 3;
    }
    ∷ record { from = plain 1; said = ("mount /a 7 1 1000" ⟿ "6 0 0") ∷ ("mount / 7 1 1000" ⟿ "0 1 1") ∷ []; counter = 2 }
    ∷ []

-- ---- what a session writes for the lines, and what the table says

-- what is written, and the counter at the end
pub record Result : Type 0 where
  pub text : List ℕ
  pub counter : ℕ

-- the lines, each with its end
unfoldable pub input : List Said → List ℕ
input [] = []
input (s ∷ ss) = ascii s.line ++ (line_end ∷ input ss)

-- the answers, each with its end
unfoldable pub output : List Said → List ℕ
output [] = []
output (s ∷ ss) = ascii s.answer ++ (line_end ∷ output ss)

-- of every case by the rules: its lines as one input
unfoldable pub results : List Case → List Result
results [] = []
results (c ∷ cs) =
    let r = session c.from (input c.said) in
    record { text = r.text; counter = counter_of r.instance } ∷ results cs

-- of every case by the table
unfoldable pub expected : List Case → List Result
expected [] = []
expected (c ∷ cs) = record { text = output c.said; counter = c.counter } ∷ expected cs

-- every line is answered as the table says, and the counter ends where it says (R137, R151, R166)
abbrev pub Worked : Type 0
Worked = results cases ≡ expected cases
