-- A piece of a session's input: its bytes one after another, as long as the output has room for a line.
use Rattle.std.specs.Prelude.{ℕ, ◌+◌, ◌-◌, ◌≤◌, Bool, cond, true, ◌&&◌, List, [], ◌∷◌, ◌++◌, ◌≡◌, length, eqb, leb, ltb, Result, Ok, Err}
use Rattle.rules.specs.Numbers.{max_line}
use Rattle.rules.specs.declared.codes.VfsError.{VfsError}
use Rattle.rules.specs.declared.codes.VfsError.TheVariants.{Small}
use Rattle.rules.specs.Instance.{Instance}
use Rattle.le.specs.Mem.{write}
use Rattle.tables.specs.View.{view}
use Rattle.tables.specs.Laid.{laid}
use Rattle.session_script.specs.Step.{Answers, by_bytes, by_rules, end_text, end_next, byte_text, byte_next, byte_carry, byte_kept}
use Rattle.session_script.specs.declared.Fed.{Fed}

-- how far a piece has come: the state, the begun line, the bytes used, and the text answered
pub record FeedGoing (S : Type 0) : Type 0 where
  pub state : S
  pub carry : List ℕ
  pub kept : ℕ
  pub used : ℕ
  pub text : List ℕ

-- nothing used, nothing answered
unfoldable pub start : (S : Type 0) → S → List ℕ → ℕ → FeedGoing S
start S s carry kept = record { state = s; carry = carry; kept = kept; used = 0; text = [] }

-- one byte further
unfoldable pub feed_step : (S : Type 0) → Answers S → ℕ → FeedGoing S → FeedGoing S
feed_step S a b g = record {
  state = byte_next S a g.state g.carry g.kept b;
  carry = byte_carry g.carry g.kept b;
  kept = byte_kept g.kept b;
  used = g.used + 1;
  text = g.text ++ byte_text S a g.state g.carry g.kept b;
}

-- all bytes, or those up to where fewer than 64 bytes of output are left
unfoldable pub fed : (S : Type 0) → Answers S → ℕ → List ℕ → FeedGoing S → FeedGoing S
fed S a room [] g = g
fed S a room (b ∷ bs) g = cond (ltb (room - length g.text) 64) g (fed S a room bs (feed_step S a b g))

-- the carry has room for a line, and the number kept is at most 8,193, which says that the line is over the limit (R150)
unfoldable pub accepts : List ℕ → ℕ → Bool
accepts carry kept = leb max_line (length carry) && leb kept (max_line + 1)

-- where the piece leads; refused, it leads nowhere
unfoldable pub goes : (S : Type 0) → Answers S → S → List ℕ → ℕ → List ℕ → ℕ → FeedGoing S
goes S a s carry kept piece room = cond (accepts carry kept) (fed S a room piece (start S s carry kept)) (start S s carry kept)

-- what is answered: the bytes used, the bytes written, and those kept of a begun line
unfoldable pub went : (S : Type 0) → FeedGoing S → Fed
went S g = record { used = g.used; wrote = length g.text; kept = g.kept }

-- the same of the instance that the bytes stand for
unfoldable pub viewed : FeedGoing (List ℕ) → FeedGoing Instance
viewed g = record { state = view g.state; carry = g.carry; kept = g.kept; used = g.used; text = g.text }

-- a piece fed: the answer, the bytes, the carry and the output exactly; on bytes that keep the layout rule, all of it is what the rules say (R137, R150, R151)
pub record Feeds (mem carry : List ℕ) (kept : ℕ) (piece out : List ℕ) (r : Result Fed VfsError) (after carried left : List ℕ) : Type 0 where
  pub answer : r ≡ cond (accepts carry kept) (Ok (went (List ℕ) (goes (List ℕ) by_bytes mem carry kept piece (length out)))) (Err Small)
  pub bytes : after ≡ (goes (List ℕ) by_bytes mem carry kept piece (length out)).state
  pub begun : carried ≡ (goes (List ℕ) by_bytes mem carry kept piece (length out)).carry
  pub text : left ≡ write out 0 (goes (List ℕ) by_bytes mem carry kept piece (length out)).text
  pub within : length (goes (List ℕ) by_bytes mem carry kept piece (length out)).text ≤ length out
  pub stands : laid mem ≡ true → viewed (goes (List ℕ) by_bytes mem carry kept piece (length out)) ≡ goes Instance by_rules (view mem) carry kept piece (length out)
  pub keeps : laid mem ≡ true → laid after ≡ true

-- ---- the end of the input

-- the last line, if it has a byte (R151)
unfoldable pub last_text : (S : Type 0) → Answers S → S → List ℕ → ℕ → List ℕ
last_text S a s carry kept = cond (eqb kept 0) [] (end_text S a s carry kept)

-- and what it leaves
unfoldable pub last_next : (S : Type 0) → Answers S → S → List ℕ → ℕ → S
last_next S a s carry kept = cond (eqb kept 0) s (end_next S a s carry kept)

-- the carry is accepted, and the output has room for a line
unfoldable pub end_accepts : List ℕ → ℕ → ℕ → Bool
end_accepts carry kept room = accepts carry kept && leb 64 room

-- the input at its end: the answer, the bytes and the output exactly, and what the bytes stand for
pub record Finishes (mem carry : List ℕ) (kept : ℕ) (out : List ℕ) (r : Result ℕ VfsError) (after left : List ℕ) : Type 0 where
  pub answer : r ≡ cond (end_accepts carry kept (length out)) (Ok (length (last_text (List ℕ) by_bytes mem carry kept))) (Err Small)
  pub bytes : after ≡ cond (end_accepts carry kept (length out)) (last_next (List ℕ) by_bytes mem carry kept) mem
  pub text : left ≡ cond (end_accepts carry kept (length out)) (write out 0 (last_text (List ℕ) by_bytes mem carry kept)) out
  pub within : end_accepts carry kept (length out) ≡ true → length (last_text (List ℕ) by_bytes mem carry kept) ≤ length out
  pub stands : laid mem ≡ true → view after ≡ cond (end_accepts carry kept (length out)) (last_next Instance by_rules (view mem) carry kept) (view mem)
  pub keeps : laid mem ≡ true → laid after ≡ true
