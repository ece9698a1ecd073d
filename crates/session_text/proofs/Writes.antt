-- The text of each answer, by the pieces that are laid down. Assumes nothing.
use Prim.Native.Nat.{ℕ, ◌+◌, ◌*◌, ◌<◌}
use native.Mathlib.Omega.{arith}
use mathlib.Core.Path.{◌≡◌, refl, sym, ap, ◌∙◌}
use mathlib.Core.List.{List, [], ◌∷◌, ◌++◌, append_assoc, append-nil}
use lib.ListN.{length, take, get_or}
use Rattle.std.proofs.lemmas.List.{take_more, flat_map_more}
use Rattle.rules.specs.Bytes.{ascii}
use Rattle.rules.specs.Session.{decimal, numbers, joined, text_of}
use Rattle.decimal.specs.declared.inner.Text.{Text}
use Rattle.decimal.specs.Text.{Appended}
use Rattle.decimal.proofs.Texts.{length_decimal, length_byte, none_appended, appended_more, appended_as}
use Rattle.session_text.specs.Texts.{spaced, backend_text}

-- a word, and numbers behind it
joined_numbers : (w : List ℕ) (ns : List ℕ) → w ++ spaced ns ≡ joined (w ∷ numbers ns)
unfolding spaced numbers joined
joined_numbers w [] = append-nil w
joined_numbers w (n ∷ ns) = ap (λ (l : List ℕ). w ++ (32 ∷ l)) (joined_numbers (decimal n) ns)

-- one number more
spaced_more : (ns : List ℕ) (i : ℕ) → i < length ns → (spaced (take i ns) ++ (32 ∷ [])) ++ decimal (get_or ns i 0) ≡ spaced (take (i + 1) ns)
unfolding spaced
spaced_more ns i h =
    append_assoc (spaced (take i ns)) (32 ∷ []) (decimal (get_or ns i 0)) ∙ flat_map_more (λ (n : ℕ). 32 ∷ decimal n) [] (take i ns) (get_or ns i 0) ∙ ap spaced (sym (take_more ns i 0 h))

-- nothing is written yet
pub wrote_none : (t : Text) (ns : List ℕ) → Appended t (21 * 0) (spaced (take 0 ns)) t
unfolding spaced
wrote_none t ns = none_appended t

pub wrote_spaced : (ns : List ℕ) (i : ℕ) → i < length ns → (l m n o : Text) → Appended l (21 * i) (spaced (take i ns)) m → Appended m 1 (32 ∷ []) n
    → Appended n (length (decimal (get_or ns i 0))) (decimal (get_or ns i 0)) o → Appended l (21 * (i + 1)) (spaced (take (i + 1) ns)) o
wrote_spaced ns i h l m n o a b c = appended_as (omega (arith, length_decimal (get_or ns i 0))) (spaced_more ns i h) (appended_more (appended_more a b) c)

pub question : (l m : Text) → Appended l 1 (63 ∷ []) m → Appended l 1 (ascii "?") m
unfolding ascii
question l m w = w

pub wrote_numbers : (code : ℕ) (ns : List ℕ) → code < 256 → (l m n : Text) → Appended l (length (decimal code)) (decimal code) m → Appended m (21 * length ns) (spaced ns) n
    → Appended l (3 + 21 * length ns) (text_of (code ∷ ns)) n
unfolding text_of joined numbers
wrote_numbers code ns h l m n a b = appended_as (omega (arith, length_byte code h)) (joined_numbers (decimal code) ns) (appended_more a b)

pub backend : (tag number : ℕ) (l m n : Text) → Appended l 1 (114 ∷ []) m → Appended m 42 (spaced (tag ∷ number ∷ [])) n → Appended l 43 (backend_text tag number) n
unfolding backend_text ascii
backend tag number l m n a b = appended_as (omega arith) (joined_numbers (114 ∷ []) (tag ∷ number ∷ [])) (appended_more a b)
