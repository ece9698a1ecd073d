-- What is claimed of every line: a `?` changes nothing, no text has a line end, and the contract allows one result only.
use Rattle.std.specs.Prelude.{ℕ, false, List, ◌≡◌, Option, None}
use Rattle.rules.specs.Bytes.{holds, ascii}
use Rattle.rules.specs.Instance.{Instance}
use Rattle.rules.specs.Session.{Line, parsed, reply_to}
use Rattle.rules.specs.Whole.{line_end}
use Rattle.tables.specs.Laid.{laid}
use Rattle.decimal.specs.declared.inner.Text.{Text}
use Rattle.session_calls.specs.Answered.{Answered}
use Rattle.session_line.specs.Reply.{reply_text, reply_mem}

-- `?` is answered to lines of no form alone, and leaves the instance (R145)
abbrev pub QuestionStill : Type 0
QuestionStill = (i : Instance) (line : List ℕ) → (reply_to i line).text ≡ ascii "?" → (parsed line ≡ None) × ((reply_to i line).instance ≡ i)

-- the same of bytes, whether or not they keep the layout rule: every one stays (R145)
abbrev pub QuestionStillBytes : Type 0
QuestionStillBytes = (mem line : List ℕ) → reply_text mem line ≡ ascii "?" → (parsed line ≡ None) × (reply_mem mem line ≡ mem)

-- a line of no form is answered `?` (R145)
abbrev pub NoFormQuestion : Type 0
NoFormQuestion = (mem line : List ℕ) → parsed line ≡ None → reply_text mem line ≡ ascii "?"

-- no text has the byte that ends a line, so one line is answered by one line (R151, R152)
abbrev pub OneLine : Type 0
OneLine = (mem line : List ℕ) → holds line_end (reply_text mem line) ≡ false

-- bytes against the layout rule are left as they were, whatever the line is (R19)
abbrev pub SmallStill : Type 0
SmallStill = (mem line : List ℕ) → laid mem ≡ false → reply_mem mem line ≡ mem

-- the place behind the text, the lent output and the bytes are those of one result (R164)
abbrev pub OneReply : Type 0
OneReply = (mem : List ℕ) (l : Option Line) (was left out : Text) (after end : List ℕ) → Answered mem l was left after → Answered mem l was out end
    → (left.at ≡ out.at) × ((left.out.now ≡ out.out.now) × (after ≡ end))
