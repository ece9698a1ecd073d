-- The numbers of the answers of a session's calls, and what a refused one leaves, by the contracts alone. Assumes nothing.
use Prim.Native.Nat.{ℕ}
use mathlib.Core.Bool.{Bool, true, false, cond}
use mathlib.Core.List.{List}
use mathlib.Core.Path.{◌≡◌, refl, sym, ap, ◌∙◌}
use native.Mathlib.Omega.{arith}
use lib.ListN.{length}
use Rattle.std.specs.Prelude.{Result, Ok, Err}
use Rattle.rules.specs.Numbers.{DONE, SMALL}
use Rattle.rules.specs.Codes.{result_code}
use Rattle.rules.specs.declared.codes.VfsError.{VfsError}
use Rattle.rules.specs.declared.codes.VfsError.TheVariants.{Small}
use Rattle.session_script.specs.Feed.{FeedGoing, start, accepts, goes, went, end_accepts, Feeds, Finishes}
use Rattle.session_script.specs.Codes.{FeedCode, FinishCode, EveryCode}
use Rattle.session_script.specs.declared.Fed.{Fed}

-- a number that is SMALL is that of the second of two
second : (b : Bool) (n : ℕ) → n ≡ cond b DONE SMALL → n ≡ SMALL → b ≡ false
second true n e f = absurd (omega (arith, sym e ∙ f))
second false n e f = refl

code_either : {T : Type 0} (b : Bool) (x : T) → result_code {T = T} (cond b (Ok x) (Err Small)) ≡ cond b DONE SMALL
code_either true x = refl
code_either false x = refl

feed_code : (mem carry : List ℕ) (kept : ℕ) (piece out : List ℕ) (r : Result Fed VfsError) (after carried left : List ℕ)
    → Feeds mem carry kept piece out r after carried left → FeedCode mem carry kept out r after carried left
unfolding goes start
feed_code mem carry kept piece out r after carried left f =
    let code : result_code r ≡ cond (accepts carry kept) DONE SMALL = ap result_code f.answer ∙ code_either (accepts carry kept) _ in
    let no : result_code r ≡ SMALL → accepts carry kept ≡ false = second (accepts carry kept) (result_code r) code in
    record { code = code; storage = λ e. f.bytes ∙ rw (no e); carry_left = λ e. f.begun ∙ rw (no e); output = λ e. f.text ∙ rw (no e) }

finish_code : (mem carry : List ℕ) (kept : ℕ) (out : List ℕ) (r : Result ℕ VfsError) (after left : List ℕ)
    → Finishes mem carry kept out r after left → FinishCode mem carry kept out r after left
finish_code mem carry kept out r after left f =
    let code : result_code r ≡ cond (end_accepts carry kept (length out)) DONE SMALL = ap result_code f.answer ∙ code_either (end_accepts carry kept (length out)) _ in
    let no : result_code r ≡ SMALL → end_accepts carry kept (length out) ≡ false = second (end_accepts carry kept (length out)) (result_code r) code in
    record { code = code; storage = λ e. f.bytes ∙ rw (no e); output = λ e. f.text ∙ rw (no e) }

pub every_code : EveryCode
every_code = record { feeds = feed_code; finishes = finish_code }
