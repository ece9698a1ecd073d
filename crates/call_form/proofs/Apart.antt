-- No two refusals have the same number, and no two answers tell the same where no two values do: from its number each refusal is found again. Assumes nothing.
use mathlib.Core.Path.{◌≡◌, refl, sym, ap, ◌∙◌}
use Rattle.std.specs.Prelude.{ℕ, Result, Ok, Err, cond, eqb}
use native.Mathlib.Omega.{arith}
use Rattle.rules.specs.Codes.{code_of}
use Rattle.rules.specs.declared.codes.VfsError.{VfsError}
use Rattle.rules.specs.declared.codes.VfsError.TheVariants.{NoEnt, Inval, TooLong, Inode, Full, NoRoom, NotFound, BadIndex, BadMap, BadSave, NotFresh, Small, BadOpt}
use Rattle.rules.specs.Outcome.{Answer}
use Rattle.call_form.specs.Form.{Told, told_of}

-- where the number is this one
abbrev at : {A : Type 0} → ℕ → ℕ → A → A → A
at n code a b = cond (eqb n code) a b

-- the refusal of a number
abbrev pub error_of : ℕ → VfsError
error_of n =
    at n 1 NoEnt (at n 2 Inval (at n 3 TooLong (at n 4 Inode (at n 5 Full (at n 6 NoRoom
    (at n 7 NotFound (at n 8 BadIndex (at n 9 BadMap (at n 10 BadSave (at n 11 NotFresh (at n 12 Small BadOpt)))))))))))

pub error_back : (e : VfsError) → error_of (code_of e) ≡ e
error_back NoEnt = refl
error_back Inval = refl
error_back TooLong = refl
error_back Inode = refl
error_back Full = refl
error_back NoRoom = refl
error_back NotFound = refl
error_back BadIndex = refl
error_back BadMap = refl
error_back BadSave = refl
error_back NotFresh = refl
error_back Small = refl
error_back BadOpt = refl

pub one_code : (a b : VfsError) → code_of a ≡ code_of b → a ≡ b
one_code a b e = sym (error_back a) ∙ (ap error_of e ∙ error_back b)

-- a refusal's number is not that of a done call
pub refused_some : (e : VfsError) → code_of e ≡ 0 → ⊥
refused_some e h = let q : e ≡ error_of 0 = sym (error_back e) ∙ ap error_of h in omega (arith, h, ap code_of q)

-- answers whose values are told apart are told apart
pub told_apart : {T : Type 0} (values : T → Answer) → ((x y : T) → values x ≡ values y → x ≡ y) → (a b : Result T VfsError) → told_of values a ≡ told_of values b → a ≡ b
told_apart values h (Ok x) (Ok y) e = ap Ok (h x y (ap (λ (t : Told). t.answer) e))
told_apart values h (Ok x) (Err d) e = absurd (refused_some d (sym (ap (λ (t : Told). t.code) e)))
told_apart values h (Err d) (Ok y) e = absurd (refused_some d (ap (λ (t : Told). t.code) e))
told_apart values h (Err c) (Err d) e = ap Err (one_code c d (ap (λ (t : Told). t.code) e))
