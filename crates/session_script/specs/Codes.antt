-- The numbers of the answers of a session's calls, and what a refused one leaves.
use Rattle.std.specs.Prelude.{ℕ, cond, List, ◌≡◌, length, Result}
use Rattle.rules.specs.Numbers.{DONE, SMALL}
use Rattle.rules.specs.Codes.{result_code}
use Rattle.rules.specs.declared.codes.VfsError.{VfsError}
use Rattle.session_script.specs.Feed.{accepts, end_accepts, Feeds, Finishes}
use Rattle.session_script.specs.declared.Fed.{Fed}

-- a feed is SMALL exactly if its carry is not accepted, and leaves the storage, the carry and the output then (R15, R17)
pub record FeedCode (mem carry : List ℕ) (kept : ℕ) (out : List ℕ) (r : Result Fed VfsError) (after carried left : List ℕ) : Type 0 where
  pub code : result_code r ≡ cond (accepts carry kept) DONE SMALL
  pub storage : result_code r ≡ SMALL → after ≡ mem
  pub carry_left : result_code r ≡ SMALL → carried ≡ carry
  pub output : result_code r ≡ SMALL → left ≡ out

-- the end is SMALL exactly if its carry is not accepted or the output has no room for a line, and leaves the storage and the output then (R15, R17)
pub record FinishCode (mem carry : List ℕ) (kept : ℕ) (out : List ℕ) (r : Result ℕ VfsError) (after left : List ℕ) : Type 0 where
  pub code : result_code r ≡ cond (end_accepts carry kept (length out)) DONE SMALL
  pub storage : result_code r ≡ SMALL → after ≡ mem
  pub output : result_code r ≡ SMALL → left ≡ out

-- by the contracts alone
pub record EveryCode : Type 0 where
  pub feeds : (mem carry : List ℕ) (kept : ℕ) (piece out : List ℕ) (r : Result Fed VfsError) (after carried left : List ℕ)
      → Feeds mem carry kept piece out r after carried left → FeedCode mem carry kept out r after carried left
  pub finishes : (mem carry : List ℕ) (kept : ℕ) (out : List ℕ) (r : Result ℕ VfsError) (after left : List ℕ)
      → Finishes mem carry kept out r after left → FinishCode mem carry kept out r after left
