-- The end of a line, one byte, and bytes that join: a law for each return of `end_line`, `join` and `end`. Assumes nothing.
use Prim.Native.Nat.{ℕ, suc, ◌+◌, ◌-◌, ◌≤◌, ◌<◌}
use native.Mathlib.Omega.{arith}
use native.Mathlib.Numerals.{add-one}
use native.Mathlib.Nat.{min_comm}
use mathlib.Core.Path.{◌≡◌, refl, ap, ◌∙◌}
use mathlib.Core.Bool.{Bool, true, false, cond}
use mathlib.Core.List.{List, [], ◌∷◌}
use lib.ListN.{length, take, set}
use lib.Seq.{take-nil}
use lib.Dec.{ltb}
use Rattle.std.specs.Prelude.{min}
use Rattle.std.proofs.lemmas.List.{take_min}
use borrow.Author.Tests.{ltb-true, ltb-false, lt-ltb, le-ltb, ne_eqb}
use Rattle.rules.specs.Bytes.{ascii}
use Rattle.le.specs.Mem.{write}
use Rattle.decimal.specs.declared.inner.Text.{Text}
use Rattle.decimal.specs.Text.{Appended}
use Rattle.decimal.proofs.Texts.{none_appended, appended_more, appended_as}
use Rattle.rules.specs.Session.{parsed, reply_to}
use Rattle.session_calls.specs.Answered.{Answered}
use Rattle.session_script.specs.Step.{end_text, end_next, byte_text, byte_next, byte_carry, byte_kept, joined_carry, joined_kept, Ended, Joined, Took}

module _ (mem carry : List ℕ) (kept : ℕ) (was : Text) where
  pub ended_over : 8192 < kept → (mid now : Text) → Appended was 1 (ascii "?") mid → Appended mid 1 (10 ∷ []) now → Ended mem carry kept was now mem
  unfolding end_text end_next
  ended_over h mid now f g = record {
    text = rw (lt-ltb 8192 kept h) (appended_as (omega arith) refl (appended_more f g));
    bytes = rw (lt-ltb 8192 kept h);
    stands = λ l. rw (lt-ltb 8192 kept h);
    keeps = λ l. l;
  }

  pub ended_line : kept ≤ 8192 → (line : List ℕ) (mid now : Text) (after : List ℕ) → Answered mem (parsed line) was mid after → line ≡ take kept carry
      → Appended mid 1 (10 ∷ []) now → Ended mem carry kept was now after
  unfolding end_text end_next reply_to
  ended_line h line mid now after f e g = record {
    text = rw (le-ltb 8192 kept h, ← e) (appended_more f.text g);
    bytes = rw (le-ltb 8192 kept h, ← e) f.bytes;
    stands = λ l. rw (le-ltb 8192 kept h, ← e) (f.stands l);
    keeps = f.keeps;
  }

  pub took_end : (now : Text) (after : List ℕ) → Ended mem carry kept was now after → Took mem carry kept 10 was now after carry 0
  unfolding byte_text byte_next byte_carry byte_kept
  took_end now after f = record { text = f.text; bytes = f.bytes; begun = refl; keeps_many = refl; stands = f.stands; keeps = f.keeps }

  -- a byte that ends no line
  pub took_join : (b : ℕ) → (b ≡ 10 → ⊥) → Took mem carry kept b was was mem (byte_carry carry kept b) (byte_kept kept b)
  unfolding byte_text byte_next
  took_join b n = record {
    text = rw (ne_eqb b 10 n) (appended_as (omega arith) refl (none_appended was));
    bytes = rw (ne_eqb b 10 n);
    begun = refl;
    keeps_many = refl;
    stands = λ l. rw (ne_eqb b 10 n);
    keeps = λ l. l;
  }

-- ---- bytes joined

module _ (carry : List ℕ) (kept : ℕ) where
  pub carry_none : joined_carry carry kept [] ≡ carry
  unfolding joined_carry
  carry_none = ap (write carry kept) (take-nil (8192 - kept))

  pub kept_none : kept ≤ 8193 → joined_kept kept [] ≡ kept
  unfolding joined_kept
  kept_none h = omega arith

  carry_by : (b : ℕ) (bytes : List ℕ) → (t : Bool) → ltb kept 8192 ≡ t → joined_carry carry kept (b ∷ bytes) ≡ joined_carry (cond t (set carry kept b) carry) (cond t (kept + 1) 8193) bytes
  unfolding joined_carry
  carry_by b bytes true e =
      let n : 8192 - kept ≡ suc (8192 - (kept + 1)) = omega (arith, ltb-true kept 8192 e) in
      rw (n, add-one)
  carry_by b bytes false e =
      let n : 8192 - kept ≡ 0 = omega (arith, ltb-false kept 8192 e) in
      rw n

  kept_by : (b : ℕ) (bytes : List ℕ) → (t : Bool) → ltb kept 8192 ≡ t → joined_kept kept (b ∷ bytes) ≡ joined_kept (cond t (kept + 1) 8193) bytes
  unfolding joined_kept
  kept_by b bytes true e = omega arith
  kept_by b bytes false e = omega (arith, ltb-false kept 8192 e)

  module _ (b : ℕ) (n : b ≡ 10 → ⊥) (bytes : List ℕ) where
    pub carry_more : joined_carry carry kept (b ∷ bytes) ≡ joined_carry (byte_carry carry kept b) (byte_kept kept b) bytes
    unfolding byte_carry byte_kept
    carry_more = rw (ne_eqb b 10 n) (carry_by b bytes _ refl)

    pub kept_more : joined_kept kept (b ∷ bytes) ≡ joined_kept (byte_kept kept b) bytes
    unfolding byte_kept
    kept_more = rw (ne_eqb b 10 n) (kept_by b bytes _ refl)

  -- what is copied, and where
  copied_by : (bytes : List ℕ) → (t : Bool) → ltb kept 8192 ≡ t → write carry (min kept 8192) (take (8192 - min kept 8192) bytes) ≡ write carry kept (take (8192 - kept) bytes)
  copied_by bytes true e = let n : min kept 8192 ≡ kept = omega (arith, ltb-true kept 8192 e) in rw n
  copied_by bytes false e =
      let n : 8192 - min kept 8192 ≡ 0 = omega (arith, ltb-false kept 8192 e) in
      let m : 8192 - kept ≡ 0 = omega (arith, ltb-false kept 8192 e) in
      rw (n, m)

  pub joined_law : (bytes : List ℕ) → Joined carry kept bytes (write carry (min kept 8192) (take (min (length bytes) (8192 - min kept 8192)) bytes)) (min (kept + length bytes) 8193)
  unfolding joined_carry joined_kept
  joined_law bytes = record { begun = ap (λ (n : ℕ). write carry (min kept 8192) (take n bytes)) (min_comm (length bytes) (8192 - min kept 8192)) ∙ ap (write carry (min kept 8192)) (take_min (8192 - min kept 8192) bytes) ∙ copied_by bytes _ refl; keeps_many = refl }
