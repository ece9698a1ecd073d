-- A whole input in any pieces: the calls that read it, each as its contract allows it, and what is claimed of all that they write; and the loop of the program, which feeds every read until
-- nothing is left of it.
use Rattle.std.specs.Prelude.{ℕ, ◌≤◌, true, List, [], ◌∷◌, ◌++◌, ◌≡◌, length, take, drop, Result, Ok, Err}
use Rattle.rules.specs.Whole.{session}
use Rattle.rules.specs.declared.codes.VfsError.{VfsError}
use Rattle.tables.specs.View.{view}
use Rattle.tables.specs.Laid.{laid}
use Rattle.session_script.specs.Feed.{accepts, Feeds, Finishes}
use Rattle.session_script.specs.declared.Fed.{Fed}

-- ---- the numbers of an answer: a refusal uses nothing, writes nothing, and keeps what was kept

-- how many bytes of the piece were used
unfoldable pub used_in : Result Fed VfsError → ℕ
used_in (Ok f) = f.used
used_in (Err e) = 0

-- how many bytes were written
unfoldable pub wrote_in : Result Fed VfsError → ℕ
wrote_in (Ok f) = f.wrote
wrote_in (Err e) = 0

-- how many bytes of a begun line are kept
unfoldable pub kept_in : ℕ → Result Fed VfsError → ℕ
kept_in kept (Ok f) = f.kept
kept_in kept (Err e) = kept

-- a feed: the piece, the input behind it, the lent output before and after, the answer, and the bytes and the carry after
pub record Feed : Type 0 where
  pub piece : List ℕ
  pub more : List ℕ
  pub out : List ℕ
  pub answer : Result Fed VfsError
  pub after : List ℕ
  pub carried : List ℕ
  pub left : List ℕ

-- the finish, with the number that it answers
pub record Finish : Type 0 where
  pub out : List ℕ
  pub wrote : ℕ
  pub after : List ℕ
  pub left : List ℕ

-- feeds from some bytes and a begun line on, then the finish: each piece is the front of the input that no feed has used yet, and the finish comes when there is none left
unfoldable pub FeedRun : List ℕ → List ℕ → List ℕ → ℕ → List Feed → Finish → Type 0
FeedRun input mem carry kept [] f = (input ≡ []) × Finishes mem carry kept f.out (Ok f.wrote) f.after f.left
FeedRun input mem carry kept (s ∷ ss) f =
    (input ≡ s.piece ++ s.more)
    × (Feeds mem carry kept s.piece s.out s.answer s.after s.carried s.left
    × FeedRun (drop (used_in s.answer) s.piece ++ s.more) s.after s.carried (kept_in kept s.answer) ss f)

-- all that they write, one after another
unfoldable pub written : List Feed → Finish → List ℕ
written [] f = take f.wrote f.left
written (s ∷ ss) f = take (wrote_in s.answer) s.left ++ written ss f

-- from bytes that keep the layout rule, and with nothing begun: all that is written is what the rules write for the whole input, and the bytes after stand for what the
-- rules leave (R137, R150, R151)
pub record WholeOf (input mem : List ℕ) (ss : List Feed) (f : Finish) : Type 0 where
  pub text : written ss f ≡ (session (view mem) input).text
  pub stands : view f.after ≡ (session (view mem) input).instance
  pub keeps : laid f.after ≡ true

-- of every cutting of every input
abbrev pub EveryCutting : Type 0
EveryCutting = (input mem carry : List ℕ) (ss : List Feed) (f : Finish) → laid mem ≡ true → FeedRun input mem carry 0 ss f → WholeOf input mem ss f

-- a feed uses no more than the piece has, and writes no more than the output has; an accepted one, of a byte or more and with 64 bytes of output or more, uses at least one, and leaves what
-- the next one accepts
pub record Onward (carry : List ℕ) (kept : ℕ) (piece out : List ℕ) (r : Result Fed VfsError) (carried : List ℕ) : Type 0 where
  pub most : used_in r ≤ length piece
  pub fits : wrote_in r ≤ length out
  pub least : accepts carry kept ≡ true → 1 ≤ length piece → 64 ≤ length out → 1 ≤ used_in r
  pub again : accepts carry kept ≡ true → accepts carried (kept_in kept r) ≡ true

-- of every feed
abbrev pub EveryFeed : Type 0
EveryFeed = (mem carry : List ℕ) (kept : ℕ) (piece out : List ℕ) (r : Result Fed VfsError) (after carried left : List ℕ)
    → Feeds mem carry kept piece out r after carried left → Onward carry kept piece out r carried

-- ---- the loop of the program

-- feeds of one piece from some bytes and a begun line on, each with as much output: each takes what the ones before it have left of the piece. They leave a rest of it, bytes, a carry and
-- how many bytes are kept
unfoldable pub Through : ℕ → List ℕ → List ℕ → List ℕ → ℕ → List Feed → List ℕ → List ℕ → List ℕ → ℕ → Type 0
Through room piece mem carry kept [] rest after carried last = (rest ≡ piece) × ((after ≡ mem) × ((carried ≡ carry) × (last ≡ kept)))
Through room piece mem carry kept (s ∷ ss) rest after carried last =
    (s.piece ≡ piece)
    × ((length s.out ≡ room)
    × (Feeds mem carry kept s.piece s.out s.answer s.after s.carried s.left
    × Through room (drop (used_in s.answer) s.piece) s.after s.carried (kept_in kept s.answer) ss rest after carried last))

-- a read: its bytes, the feeds of them, and what these leave
pub record Read : Type 0 where
  pub piece : List ℕ
  pub feeds : List Feed
  pub after : List ℕ
  pub carried : List ℕ
  pub kept : ℕ

-- every read is fed until nothing is left of it; then the input is at its end
unfoldable pub Loop : ℕ → List ℕ → List ℕ → ℕ → List Read → Finish → Type 0
Loop room mem carry kept [] f = Finishes mem carry kept f.out (Ok f.wrote) f.after f.left
Loop room mem carry kept (r ∷ rs) f =
    Through room r.piece mem carry kept r.feeds [] r.after r.carried r.kept × Loop room r.after r.carried r.kept rs f

-- all that is read
unfoldable pub input_of : List Read → List ℕ
input_of [] = []
input_of (r ∷ rs) = r.piece ++ input_of rs

-- all feeds
unfoldable pub feeds_of : List Read → List Feed
feeds_of [] = []
feeds_of (r ∷ rs) = r.feeds ++ feeds_of rs

-- of all reads, whatever they bring: what the feeds and the finish write is what the rules write for all that was read, and the bytes after stand for what the rules leave (R137, R150, R151)
abbrev pub EveryLoop : Type 0
EveryLoop = (room : ℕ) (mem carry : List ℕ) (rs : List Read) (f : Finish) → laid mem ≡ true → Loop room mem carry 0 rs f → WholeOf (input_of rs) mem (feeds_of rs) f
