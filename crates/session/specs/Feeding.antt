-- What the program makes of a read, and of the end of its input: the contracts of its functions.
use Rattle.std.specs.Prelude.{ℕ, Bool, true, false, List, [], ◌∷◌, ◌⊎◌, ◌≡◌, take, Ok}
use Rattle.session_script.specs.Feed.{Finishes}
use Rattle.session_script.specs.Runs.{Feed, Finish, Through, Read, Loop}

-- a read fed from its front on, each feed going on where the one before it ended, with the begun line and the bytes that it left; where all was written, nothing of the read is left (R137, R151)
pub record FedAll (room : ℕ) (mem carry : List ℕ) (kept : ℕ) (piece : List ℕ) (well : Bool) (after carried : List ℕ) (last : ℕ) : Type 0 where
  pub feeds : List Feed
  pub rest : List ℕ
  pub through : Through room piece mem carry kept feeds rest after carried last
  pub whole : well ≡ true → rest ≡ []

-- the input at its end: the finish is done
pub record InputEnds (mem carry : List ℕ) (kept : ℕ) (out after left : List ℕ) : Type 0 where
  pub wrote : ℕ
  pub finishes : Finishes mem carry kept out (Ok wrote) after left

-- a read has brought some bytes, which stand at the front of the input buffer, none where it was interrupted or failed; these were fed from the begun line on
pub record Brought (room : ℕ) (mem carry : List ℕ) (kept : ℕ) (input : List ℕ) (on : Bool) (after carried : List ℕ) (last : ℕ) : Type 0 where
  pub n : ℕ
  pub fed : FedAll room mem carry kept (take n input) on after carried last

-- the input has ended, and the session does not go on
pub record Over (mem carry : List ℕ) (kept : ℕ) (out : List ℕ) (on : Bool) (after carried : List ℕ) (last : ℕ) (left : List ℕ) : Type 0 where
  pub off : on ≡ false
  pub same : last ≡ kept
  pub begun : carried ≡ carry
  pub ends : InputEnds mem carry kept out after left

-- one or the other
abbrev pub Turned : ℕ → List ℕ → List ℕ → ℕ → List ℕ → List ℕ → Bool → List ℕ → List ℕ → ℕ → List ℕ → Type 0
Turned room mem carry kept input out on after carried last left =
    Brought room mem carry kept input on after carried last ⊎ Over mem carry kept out on after carried last left

-- a turn that was made: the input buffer after it, the output before it, whether the session goes on, and the bytes, the carry, the number kept and the output after it
pub record Turn : Type 0 where
  pub input : List ℕ
  pub out : List ℕ
  pub on : Bool
  pub after : List ℕ
  pub carried : List ℕ
  pub kept : ℕ
  pub left : List ℕ

-- turns one after another, each from where the one before it has led; the session goes on after each
unfoldable pub Turns : ℕ → List ℕ → List ℕ → ℕ → List Turn → List ℕ → List ℕ → ℕ → Type 0
Turns room mem carry kept [] after carried last = (after ≡ mem) × ((carried ≡ carry) × (last ≡ kept))
Turns room mem carry kept (t ∷ ts) after carried last =
    Turned room mem carry kept t.input t.out t.on t.after t.carried t.kept t.left
    × ((t.on ≡ true)
    × Turns room t.after t.carried t.kept ts after carried last)

-- a run, from what is begun on: turns, and behind them one after which the session does not go on, or none, where the number of turns is used up
pub record Ran (room : ℕ) (mem carry : List ℕ) (start : ℕ) (after carried : List ℕ) : Type 0 where
  pub turns : List Turn
  pub bytes : List ℕ
  pub begun : List ℕ
  pub kept : ℕ
  pub chain : Turns room mem carry start turns bytes begun kept
  pub last : ((t : Turn) × (Turned room bytes begun kept t.input t.out t.on after carried t.kept t.left × (t.on ≡ false))) ⊎ ((after ≡ bytes) × (carried ≡ begun))

-- the loop on some reads, which leaves these bytes
pub record LoopOf (room : ℕ) (mem carry : List ℕ) (kept : ℕ) (after : List ℕ) : Type 0 where
  pub reads : List Read
  pub finish : Finish
  pub loop : Loop room mem carry kept reads finish
  pub end : finish.after ≡ after

-- turns that come to the end of the input are such a loop, of which `session_script` says what it writes and leaves
abbrev pub EveryProgramRun : Type 0
EveryProgramRun = (room : ℕ) (out : List ℕ) (on : Bool) (after carried left : List ℕ) (ts : List Turn) (mem carry : List ℕ) (kept : ℕ) (bytes begun : List ℕ) (last end : ℕ)
    → Turns room mem carry kept ts bytes begun last → Over bytes begun last out on after carried end left → LoopOf room mem carry kept after
