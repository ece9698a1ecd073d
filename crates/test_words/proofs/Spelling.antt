-- Laws of hex digits: what a digit is, and what is spelt at the front of bytes, by pairs and behind percent signs. Assumes nothing.
use Rattle.std.proofs.Common.{ℕ, ◌+◌, ◌-◌, ◌*◌, ◌≤◌, ◌<◌, ◌≡◌, ◌≢◌, refl, sym, ◌∙◌, List, [], ◌∷◌, length, get_or, take, drop, Option, Some, None, unwrap_or, MatchOption, Bor, slice_range, ◌⊎◌, arith}
use Rattle.std.proofs.lemmas.Bool.Decides.{nat_tests}
use Rattle.std.proofs.Math.Seq.{take_all}
use Rattle.std.proofs.Math.ListN.{length-drop, drop_of_length-le}
use Rattle.rules.specs.Session.{is_digit}
use Rattle.test_words.specs.Spelt.{hex_digit, hex_pair, hex_bytes, percent_front, percent_bytes}

-- ---- a digit, and a pair

pub digit_less : (b x : ℕ) → hex_digit b ≡ Some x → x < 16
unfolding hex_digit is_digit
digit_less b x e = grind (arith, nat_tests)

pub pair_is : (a b x y : ℕ) → hex_digit a ≡ Some x → hex_digit b ≡ Some y → Some (x * 16 + y) ≡ hex_pair a b
unfolding hex_pair
pair_is a b x y e f = rw (e, f)

pub pair_first : (a b : ℕ) → hex_digit a ≡ None → None ≡ hex_pair a b
unfolding hex_pair
pair_first a b e = rw e

pub pair_second : (a b x : ℕ) → hex_digit a ≡ Some x → hex_digit b ≡ None → None ≡ hex_pair a b
unfolding hex_pair
pair_second a b x e f = rw (e, f)

-- ---- a part of a slice up to its end

abbrev pub from : ℕ → List ℕ → List ℕ
from k s = take (length s - k) (drop k s)

pub from_drop : (k : ℕ) (s : List ℕ) → from k s ≡ drop k s
from_drop k s = take_all (length s - k) (drop k s) (omega (arith, length-drop k s))

-- what `get` gives of a slice from a place on, or nothing past the end
pub from_get : (s : List ℕ) (at : ℕ) (o : Option (Bor (List ℕ))) (d : Bor (List ℕ))
    → MatchOption o ((length s < at) ⊎ (length s < length s)) (λ x. (at ≤ length s) × (length s ≤ length s) × (x.now ≡ slice_range s at (length s)) × (length x.now + at ≡ length s)) → d.now ≡ [] → (unwrap_or o d).now ≡ drop at s
from_get s at None d h e = e ∙ sym (drop_of_length-le s (omega arith))
from_get s at (Some x) d h e = h.2 ∙ from_drop at s

-- ---- the bytes that pairs spell

pub bytes_end : (s : List ℕ) → length s < 2 → hex_bytes s ≡ []
unfolding hex_bytes
bytes_end [] h = refl
bytes_end (a ∷ []) h = refl
bytes_end (a ∷ b ∷ s) h = absurd (omega arith)

pub bytes_stop : (s : List ℕ) → hex_pair (get_or s 0 0) (get_or s 1 0) ≡ None → hex_bytes s ≡ []
unfolding hex_bytes
bytes_stop [] e = refl
bytes_stop (a ∷ []) e = refl
bytes_stop (a ∷ b ∷ s) e = rw e

pub bytes_more : (s : List ℕ) (p : ℕ) → 2 ≤ length s → hex_pair (get_or s 0 0) (get_or s 1 0) ≡ Some p → hex_bytes s ≡ p ∷ hex_bytes (from 2 s)
unfolding hex_bytes
bytes_more [] p h e = absurd (omega arith)
bytes_more (a ∷ []) p h e = absurd (omega arith)
bytes_more (a ∷ b ∷ s) p h e = rw (e, from_drop 2 (a ∷ b ∷ s))

-- ---- the byte behind a percent sign

pub front_short : (s : List ℕ) → length s < 3 → None ≡ percent_front s
unfolding percent_front
front_short [] h = refl
front_short (a ∷ []) h = refl
front_short (a ∷ b ∷ []) h = refl
front_short (a ∷ b ∷ c ∷ s) h = absurd (omega arith)

pub front_pair : (s : List ℕ) → 3 ≤ length s → get_or s 0 0 ≡ 37 → hex_pair (get_or s 1 0) (get_or s 2 0) ≡ percent_front s
unfolding percent_front
front_pair [] h e = absurd (omega arith)
front_pair (a ∷ []) h e = absurd (omega arith)
front_pair (a ∷ b ∷ []) h e = absurd (omega arith)
front_pair (a ∷ b ∷ c ∷ s) h e = rw e

pub front_other : (s : List ℕ) → get_or s 0 0 ≢ 37 → None ≡ percent_front s
unfolding percent_front
front_other [] h = refl
front_other (a ∷ []) h = refl
front_other (a ∷ b ∷ []) h = refl
front_other (a ∷ b ∷ c ∷ s) h = grind (arith, nat_tests)

pub front_long : (s : List ℕ) (p : ℕ) → percent_front s ≡ Some p → 3 ≤ length s
unfolding percent_front
front_long [] p e = cc
front_long (a ∷ []) p e = cc
front_long (a ∷ b ∷ []) p e = cc
front_long (a ∷ b ∷ c ∷ s) p e = omega arith

pub percents_end : (s : List ℕ) → length s < 1 → percent_bytes s ≡ []
unfolding percent_bytes
percents_end [] h = refl
percents_end (a ∷ s) h = absurd (omega arith)

pub percents_plain : (s : List ℕ) → 0 < length s → percent_front s ≡ None → percent_bytes s ≡ get_or s 0 0 ∷ percent_bytes (from 1 s)
unfolding percent_bytes
percents_plain [] h e = absurd (omega arith)
percents_plain (a ∷ []) h e = refl
percents_plain (a ∷ b ∷ []) h e = refl
percents_plain (a ∷ b ∷ c ∷ s) h e = rw (e, from_drop 1 (a ∷ b ∷ c ∷ s))

pub percents_spelt : (s : List ℕ) (p : ℕ) → percent_front s ≡ Some p → percent_bytes s ≡ p ∷ percent_bytes (from 3 s)
unfolding percent_bytes
percents_spelt [] p e = absurd (omega (arith, front_long [] p e))
percents_spelt (a ∷ []) p e = absurd (omega (arith, front_long (a ∷ []) p e))
percents_spelt (a ∷ b ∷ []) p e = absurd (omega (arith, front_long (a ∷ b ∷ []) p e))
percents_spelt (a ∷ b ∷ c ∷ s) p e = rw (e, from_drop 3 (a ∷ b ∷ c ∷ s))
