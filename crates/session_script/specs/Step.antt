-- One byte of a session: it ends the begun line or joins it.
use Rattle.std.specs.Prelude.{ℕ, ◌+◌, ◌-◌, min, cond, true, List, [], ◌∷◌, ◌++◌, ◌≡◌, length, take, set, eqb, ltb}
use Rattle.rules.specs.Numbers.{max_line}
use Rattle.rules.specs.Bytes.{ascii}
use Rattle.rules.specs.Instance.{Instance}
use Rattle.rules.specs.Session.{reply_to}
use Rattle.rules.specs.Whole.{line_end}
use Rattle.le.specs.Mem.{write}
use Rattle.tables.specs.View.{view}
use Rattle.tables.specs.Laid.{laid}
use Rattle.decimal.specs.declared.inner.Text.{Text}
use Rattle.decimal.specs.Text.{Appended}
use Rattle.session_line.specs.Reply.{reply_text, reply_mem}

-- who answers a line: its text, and what it leaves
pub record Answers (S : Type 0) : Type 0 where
  pub text : S → List ℕ → List ℕ
  pub next : S → List ℕ → S

-- on bytes, whatever they hold
abbrev pub by_bytes : Answers (List ℕ)
by_bytes = record { text = reply_text; next = reply_mem }

-- by the rules (R137)
abbrev pub by_rules : Answers Instance
by_rules = record { text = λ (i : Instance) (l : List ℕ). (reply_to i l).text; next = λ (i : Instance) (l : List ℕ). (reply_to i l).instance }

-- ---- the begun line: its bytes at the front of the carry and their number, which is above 8,192 where the line is over the limit (R150)

-- its answer, with the line end
unfoldable pub end_text : (S : Type 0) → Answers S → S → List ℕ → ℕ → List ℕ
end_text S a s carry kept = cond (ltb max_line kept) (ascii "?") (a.text s (take kept carry)) ++ (line_end ∷ [])

-- what it leaves
unfoldable pub end_next : (S : Type 0) → Answers S → S → List ℕ → ℕ → S
end_next S a s carry kept = cond (ltb max_line kept) s (a.next s (take kept carry))

-- ---- one more byte

-- what is answered: nothing where the byte joins the line (R151)
unfoldable pub byte_text : (S : Type 0) → Answers S → S → List ℕ → ℕ → ℕ → List ℕ
byte_text S a s carry kept b = cond (eqb b line_end) (end_text S a s carry kept) []

-- what is left
unfoldable pub byte_next : (S : Type 0) → Answers S → S → List ℕ → ℕ → ℕ → S
byte_next S a s carry kept b = cond (eqb b line_end) (end_next S a s carry kept) s

-- a byte over the limit is not kept (R150)
unfoldable pub byte_carry : List ℕ → ℕ → ℕ → List ℕ
byte_carry carry kept b = cond (eqb b line_end) carry (cond (ltb kept max_line) (set carry kept b) carry)

-- how many bytes are kept then; 8,193 says that the line is over the limit (R150)
unfoldable pub byte_kept : ℕ → ℕ → ℕ
byte_kept kept b = cond (eqb b line_end) 0 (cond (ltb kept max_line) (kept + 1) (max_line + 1))

-- ---- bytes with no line end among them

-- as many as the limit lets are kept behind those that are (R150)
unfoldable pub joined_carry : List ℕ → ℕ → List ℕ → List ℕ
joined_carry carry kept bytes = write carry kept (take (max_line - kept) bytes)

-- how many are kept then; 8,193 says that the line is over the limit (R150)
unfoldable pub joined_kept : ℕ → List ℕ → ℕ
joined_kept kept bytes = min (kept + length bytes) (max_line + 1)

-- ---- contracts

-- the begun line answered: the text, the bytes exactly, what they stand for, and the layout rule kept
pub record Ended (mem carry : List ℕ) (kept : ℕ) (was now : Text) (after : List ℕ) : Type 0 where
  pub text : Appended was 46 (end_text (List ℕ) by_bytes mem carry kept) now
  pub bytes : after ≡ end_next (List ℕ) by_bytes mem carry kept
  pub stands : laid mem ≡ true → view after ≡ end_next Instance by_rules (view mem) carry kept
  pub keeps : laid mem ≡ true → laid after ≡ true

-- bytes joined: the carry and the number kept exactly
pub record Joined (carry : List ℕ) (kept : ℕ) (bytes carried : List ℕ) (many : ℕ) : Type 0 where
  pub begun : carried ≡ joined_carry carry kept bytes
  pub keeps_many : many ≡ joined_kept kept bytes

-- one byte taken: the text, the bytes, the carry and the number kept exactly, what the bytes stand for, and the layout rule kept
pub record Took (mem carry : List ℕ) (kept b : ℕ) (was now : Text) (after carried : List ℕ) (many : ℕ) : Type 0 where
  pub text : Appended was 46 (byte_text (List ℕ) by_bytes mem carry kept b) now
  pub bytes : after ≡ byte_next (List ℕ) by_bytes mem carry kept b
  pub begun : carried ≡ byte_carry carry kept b
  pub keeps_many : many ≡ byte_kept kept b
  pub stands : laid mem ≡ true → view after ≡ byte_next Instance by_rules (view mem) carry kept b
  pub keeps : laid mem ≡ true → laid after ≡ true
