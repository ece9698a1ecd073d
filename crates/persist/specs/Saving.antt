-- What a save answers and leaves, by the rule on the instance that the bytes stand for; and how much it can be.
use Rattle.std.specs.Prelude.{ℕ, ◌≤◌, ◌≡◌, true, List, ◌++◌, length, drop, Result, Ok, Err}
use Rattle.rules.specs.Numbers.{max_saved}
use Rattle.rules.specs.declared.codes.VfsError.{VfsError}
use Rattle.rules.specs.declared.codes.VfsError.TheVariants.{Small}
use Rattle.rules.specs.Instance.{Instance}
use Rattle.rules.specs.Outcome.{wrote, Outcome}
use Rattle.rules.specs.Saved.{encode}
use Rattle.rules.specs.StateRestore.{saved_state, save_rule}
use Rattle.tables.specs.View.{view}
use Rattle.tables.specs.Laid.{laid}
use Rattle.call_form.specs.Form.{Told, told_of, Writes}

-- the number of each answer and its values (R15, R16, R125)
abbrev pub saved_told : Result ℕ VfsError → Told
saved_told = told_of wrote

-- the rule for the lent output d (R125)
abbrev pub saving : List ℕ → Instance → Outcome
saving d i = save_rule i (length d)

-- r is answered, and the lent output d is e then (R17, R125)
abbrev pub Saves : List ℕ → List ℕ → Result ℕ VfsError → List ℕ → Type 0
Saves mem d r e = Writes mem (saving d) d (saved_told r) e

-- ---- the same, read off the answer

-- a done save: the storage keeps the layout rule, n is the length of its state, and the state stands before what d held behind it
pub record Holds (mem d : List ℕ) (n : ℕ) (e : List ℕ) : Type 0 where
  pub rule : laid mem ≡ true
  pub count : n ≡ length (encode (saved_state (view mem)))
  pub bytes : e ≡ encode (saved_state (view mem)) ++ drop n d

-- so it is after every done save (R125)
abbrev pub DoneHolds : Type 0
DoneHolds = (mem d : List ℕ) (n : ℕ) (e : List ℕ) → Saves mem d (Ok n) e → Holds mem d n e

-- a refused one leaves every byte of the lent output (R17)
abbrev pub SmallLeaves : Type 0
SmallLeaves = (mem d e : List ℕ) → Saves mem d (Err Small) e → e ≡ d

-- ---- how much it can be, on any storage (R124)

-- no save writes more
abbrev pub NeverLonger : Type 0
NeverLonger = (mem d : List ℕ) (n : ℕ) (e : List ℕ) → Saves mem d (Ok n) e → n ≤ max_saved

-- so many bytes are always enough: the whole state is saved
abbrev pub Enough : Type 0
Enough = (mem d : List ℕ) (r : Result ℕ VfsError) (e : List ℕ) → laid mem ≡ true → max_saved ≤ length d → Saves mem d r e → r ≡ Ok (length (encode (saved_state (view mem))))
