-- A text laid into bytes from a place on, cut to the room: what is left to write behind n bytes. Assumes nothing.
use Prim.Native.Nat.{ℕ, zero, suc, ◌+◌, ◌-◌, ◌≤◌, ◌<◌}
use native.Mathlib.Nat.{sub-zero, zero-sub, suc-sub-suc}
use native.Mathlib.Omega.{arith}
use native.Mathlib.Numerals.{add-one}
use mathlib.Core.Path.{◌≡◌, refl, sym, ap, ◌∙◌}
use mathlib.Core.List.{List, [], ◌∷◌, ◌++◌}
use lib.ListN.{length, take, set, length-append, length-take}
use lib.Seq.{take-nil}
use Rattle.le.specs.Mem.{write}
use Rattle.le.proofs.Lens.{write_append}
use Rattle.decimal.specs.Wrote.{Wrote}

-- a cut in two runs
take_both : (k : ℕ) (xs ys : List ℕ) → take k (xs ++ ys) ≡ take k xs ++ take (k - length xs) ys
take_both zero xs ys = rw (zero-sub (length xs))
take_both (suc k) [] ys = rw (sub-zero (suc k))
take_both (suc k) (x ∷ xs) ys = rw (suc-sub-suc k (length xs)) (ap (λ (l : List ℕ). x ∷ l) (take_both k xs ys))

-- n bytes stand, and with the rest, cut at `most` bytes, the text will
pub record Rest (most at : ℕ) (text was out : List ℕ) (n : ℕ) (rest : List ℕ) : Type 0 where
  pub within : n ≤ most
  pub bytes : write out n (take (most - n) rest) ≡ write was at text
  pub count : n + length (take (most - n) rest) ≡ at + length text

-- at the start: from a place on, and from the first byte on
pub rest_from : (most at : ℕ) (was all : List ℕ) → at ≤ most → Rest most at (take (most - at) all) was was at all
rest_from most at was all h = record { within = h; bytes = refl; count = refl }

pub rest_all : (most : ℕ) (was all : List ℕ) → Rest most 0 (take most all) was was 0 all
rest_all most was all = rw (sub-zero most) at (rest_from most 0 was all (omega arith))

module _ {most at : ℕ} {text was out : List ℕ} {n : ℕ} {rest : List ℕ} where
  none_left : (room : ℕ) → most ≤ at + room → take (most - n) rest ≡ [] → Rest most at text was out n rest → Wrote was at room text n out
  none_left room h e f = record {
    end = omega (arith, f.count, ap length e);
    within = omega (arith, f.within);
    bytes = sym (ap (write out n) e) ∙ f.bytes;
  }

  -- at the end: nothing is left, or no room
  pub ended : (room : ℕ) → most ≤ at + room → rest ≡ [] → Rest most at text was out n rest → Wrote was at room text n out
  ended room h e = none_left room h (ap (take (most - n)) e ∙ take-nil (most - n))

  pub full : (room : ℕ) → most ≤ at + room → most ≤ n → Rest most at text was out n rest → Wrote was at room text n out
  full room h k = none_left room h (let e : most - n ≡ 0 = omega arith in rw e)

  -- one byte more
  pub one_more : (b : ℕ) (behind : List ℕ) → n < most → rest ≡ b ∷ behind → Rest most at text was out n rest → Rest most at text was (set out n b) (n + 1) behind
  one_more b behind k e f =
      let d : most - n ≡ suc (most - (n + 1)) = omega arith in
      let l : take (most - n) rest ≡ b ∷ take (most - (n + 1)) behind = rw (d, e) in
      record {
        within = omega arith;
        bytes = ap (λ (j : ℕ). write (set out n b) j (take (most - (n + 1)) behind)) (add-one n) ∙ sym (ap (write out n) l) ∙ f.bytes;
        count = omega (arith, f.count, ap length l);
      }

  -- a run more, cut to the room
  pub run_more : (xs behind now : List ℕ) (room r len : ℕ) → len ≡ most → rest ≡ xs ++ behind → Wrote out n room (take (len - n) xs) r now
      → Rest most at text was out n rest → Rest most at text was now r behind
  run_more xs behind now room r len q e v f =
      let w = rw q at v in
      let c = length-take (most - n) xs in
      let d : most - n - length xs ≡ most - r = omega (arith, c, w.end, f.within) in
      let l : take (most - n) rest ≡ take (most - n) xs ++ take (most - r) behind = rw (e, take_both (most - n) xs behind, d) in
      record {
        within = omega (arith, c, w.end, f.within);
        bytes =
            ap (λ (k : List ℕ). write k r (take (most - r) behind)) w.bytes
            ∙ ap (λ (j : ℕ). write (write out n (take (most - n) xs)) j (take (most - r) behind)) w.end
            ∙ sym (write_append out n (take (most - n) xs) (take (most - r) behind)) ∙ sym (ap (write out n) l) ∙ f.bytes;
        count = omega (arith, w.end, f.count, ap length l, length-append (take (most - n) xs) (take (most - r) behind));
      }
