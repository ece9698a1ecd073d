-- From its numbers each answer is found again: a refusal from its code, a value from the numbers beside it. Assumes nothing.
use mathlib.Core.Path.{◌≡◌, refl, sym, ap, ◌∙◌}
use Prim.Native.Nat.{ℕ}
use mathlib.Core.Bool.{cond}
use lib.Dec.{eqb}
use Rattle.std.specs.Prelude.{Option, None, Some, Ok, Err}
use Rattle.rules.specs.Numbers.{or_zero, DONE}
use Rattle.rules.specs.Codes.{code_of}
use Rattle.rules.specs.Outcome.{Answer}
use Rattle.rules.specs.declared.codes.VfsError.{VfsError}
use Rattle.rules.specs.declared.codes.VfsError.TheVariants.{NoEnt, Inval, TooLong, Inode, Full, NoRoom, NotFound, BadIndex, BadMap, BadSave, NotFresh, Small, BadOpt}
use Rattle.call_form.specs.Form.{Told, tells, refuses, told_of}
use Rattle.call_form.proofs.Apart.{error_of, error_back}
use Rattle.flat.specs.Flat.{VfsResult, has}
use Rattle.one_result.specs.Apart.{Apart}

-- what can be led back is told apart
pub apart : {A B : Type 0} (f : A → B) (g : B → A) → ((a : A) → g (f a) ≡ a) → Apart f
apart f g back a b e = sym (back a) ∙ ap g e ∙ back b

-- so answers whose numbers are apart are apart by what they tell
pub told_apart : {A B : Type 0} (told : A → Told) (numbers : Told → B) → Apart (λ (a : A). numbers (told a)) → Apart told
told_apart told numbers h a b e = h a b (ap numbers e)

-- ---- refusals

-- where the number is this one
abbrev pub at : {A : Type 0} → ℕ → ℕ → A → A → A
at n code a b = cond (eqb code n) a b

-- no refusal is done
pub not_done : {A : Type 0} (e : VfsError) (a b : A) → at DONE (code_of e) a b ≡ b
not_done NoEnt a b = refl
not_done Inval a b = refl
not_done TooLong a b = refl
not_done Inode a b = refl
not_done Full a b = refl
not_done NoRoom a b = refl
not_done NotFound a b = refl
not_done BadIndex a b = refl
not_done BadMap a b = refl
not_done BadSave a b = refl
not_done NotFresh a b = refl
not_done Small a b = refl
not_done BadOpt a b = refl

-- ---- values that are there or not

abbrev pub some_back : {A : Type 0} → ℕ → A → Option A
some_back n x = at 1 n (Some x) None

pub some_back_lem : (t : Option ℕ) → some_back (has t) (or_zero t) ≡ t
some_back_lem None = refl
some_back_lem (Some x) = refl

-- ---- a value or a refusal

-- the value from its number and the values, where it is done
abbrev pub result_back : {T : Type 0} → ℕ → T → VfsResult T
result_back n x = at DONE n (Ok x) (Err (error_of n))

pub refused_back : {T : Type 0} (x : T) (e : VfsError) → result_back (code_of e) x ≡ Err e
refused_back x e = not_done e (Ok x) (Err (error_of (code_of e))) ∙ ap Err (error_back e)

module _ {T B : Type 0} (values : T → Answer) (numbers : Told → B) (code : B → ℕ) (back : B → T) where
  abbrev led : B → VfsResult T
  led r = result_back (code r) (back r)

  -- where the number stands among the numbers, and the values are led back, so is each answer
  pub result_apart : ((t : Told) → code (numbers t) ≡ t.code) → ((x : T) → back (numbers (tells (values x))) ≡ x) → Apart (λ (a : VfsResult T). numbers (told_of values a))
  result_apart h b = apart (λ (a : VfsResult T). numbers (told_of values a)) led go
    where
      go : (a : VfsResult T) → led (numbers (told_of values a)) ≡ a
      go (Ok x) = ap (λ (n : ℕ). result_back n (back (numbers (tells (values x))))) (h (tells (values x))) ∙ ap Ok (b x)
      go (Err e) = ap (λ (n : ℕ). result_back n (back (numbers (refuses (code_of e))))) (h (refuses (code_of e))) ∙ refused_back (back (numbers (refuses (code_of e)))) e
