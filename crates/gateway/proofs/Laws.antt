-- What an export answers and leaves that makes a request of its numbers. Assumes nothing.
use Prim.Native.Nat.{ℕ}
use mathlib.Core.Path.{◌≡◌, subst}
use mathlib.Core.List.{List}
use Rattle.rules.specs.Instance.{Instance}
use Rattle.rules.specs.Outcome.{Outcome}
use Rattle.rules.specs.Mount.{Request}
use Rattle.call_form.specs.Form.{Told, DoesBy, Does}

-- from what the call for the request q answers and leaves, which is the request p that is asked for
pub does_asked : {A : Type 0} (numbers : Told → A) (mem : List ℕ) (rule : Instance → Request → Outcome) (exact : Request → List ℕ) (q p : Request) (t : Told) (r : A) (after : List ℕ)
    → q ≡ p → r ≡ numbers t → Does mem (λ i. rule i q) t after (exact q) → DoesBy numbers mem (λ i. rule i p) r after (exact p)
does_asked numbers mem rule exact q p t r after e h d =
    let f = subst (λ (x : Request). Does mem (λ i. rule i x) t after (exact x)) e d in
    let answer = f.answer in
    record { answer = cc; bytes = f.bytes; stands = f.stands; keeps = f.keeps }
