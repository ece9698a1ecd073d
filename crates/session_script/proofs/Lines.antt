-- A begun line before the rest of an input: what a whole session makes of them. Assumes nothing.
use Prim.Native.Nat.{ℕ}
use mathlib.Core.Path.{◌≡◌, refl, sym}
use mathlib.Core.Bool.{false}
use mathlib.Core.List.{List, [], ◌∷◌, ◌++◌, append_assoc}
use lib.Dec.{eqb}
use Rattle.rules.specs.Instance.{Instance}
use Rattle.rules.specs.Session.{reply_to}
use Rattle.rules.specs.Whole.{lines_of, replies, session}

-- no byte ends a line
abbrev pub Plain : List ℕ → Type 0
Plain [] = Unit {0}
Plain (b ∷ s) = (eqb b 10 ≡ false) × Plain s

pub plain_more : (line : List ℕ) (b : ℕ) → Plain line → eqb b 10 ≡ false → Plain (line ++ (b ∷ []))
plain_more [] b p e = (e, p)
plain_more (x ∷ line) b (n, p) e = (n, plain_more line b p e)

lines_end : (line rest : List ℕ) → Plain line → lines_of (line ++ (10 ∷ rest)) ≡ line ∷ lines_of rest
unfolding lines_of
lines_end [] rest p = refl
lines_end (b ∷ line) rest (n, p) = rw (n, lines_end line rest p)

lines_last : (b : ℕ) (line : List ℕ) → Plain (b ∷ line) → lines_of (b ∷ line) ≡ (b ∷ line) ∷ []
unfolding lines_of
lines_last b [] (n, p) = rw n
lines_last b (x ∷ line) (n, p) = rw (n, lines_last x line p)

-- the line is at its end
module _ (i : Instance) (line rest : List ℕ) (p : Plain line) where
  pub ends_text : (session i (line ++ (10 ∷ rest))).text ≡ ((reply_to i line).text ++ (10 ∷ [])) ++ (session (reply_to i line).instance rest).text
  unfolding session replies
  ends_text = rw (lines_end line rest p) (sym (append_assoc (reply_to i line).text (10 ∷ []) _))

  pub ends_instance : (session i (line ++ (10 ∷ rest))).instance ≡ (session (reply_to i line).instance rest).instance
  unfolding session replies
  ends_instance = rw (lines_end line rest p)

-- the line is the last one
module _ (i : Instance) (b : ℕ) (line : List ℕ) (p : Plain (b ∷ line)) where
  pub last_text_lem : (session i (b ∷ line)).text ≡ (reply_to i (b ∷ line)).text ++ (10 ∷ [])
  unfolding session replies
  last_text_lem = rw (lines_last b line p)

  pub last_instance : (session i (b ∷ line)).instance ≡ (reply_to i (b ∷ line)).instance
  unfolding session replies
  last_instance = rw (lines_last b line p)

-- nothing is left
pub none_text : (i : Instance) → (session i []).text ≡ []
unfolding session replies lines_of
none_text i = refl

pub none_instance : (i : Instance) → (session i []).instance ≡ i
unfolding session replies lines_of
none_instance i = refl
