-- Laws of cells that a line names: which is named, and the line by its front. Assumes nothing.
use Rattle.std.proofs.Common.{ℕ, ◌+◌, ◌-◌, ◌≤◌, ◌<◌, ◌≡◌, ◌≢◌, ◌⊎◌, refl, sym, ap, ◌∙◌, min, List, [], ◌∷◌, ◌++◌, length, get_or, take, drop, set, Some, None, arith}
use Rattle.std.proofs.lemmas.Bool.Decides.{nat_tests}
use Rattle.std.proofs.Math.ListN.{length-drop, length-take}
use Rattle.std.proofs.lemmas.List.{take_min}
use lib.Seq.{take-nil}
use borrow.Rule.Slice.PartMut.{put_mid}
use Rattle.rules.specs.Session.{decimal}
use Rattle.le.proofs.Writes.{write_over, write_part, take_write}
use Rattle.decimal.specs.Wrote.{Wrote}
use Rattle.decimal.proofs.Texts.{length_decimal}
use Rattle.test_words.proofs.Filling.{Rest, run_more}
use Rattle.test_words.proofs.Spelling.{from, from_drop}
use Rattle.test_expand.specs.Cells.{cell_named, expanded_by}

-- ---- which cell is named

pub short_names_none : (s : List ℕ) → length s < 2 → None ≡ cell_named s
unfolding cell_named
short_names_none [] h = refl
short_names_none (a ∷ []) h = refl
short_names_none (a ∷ b ∷ s) h = absurd (omega arith)

pub letter_names : (s : List ℕ) → 2 ≤ length s → get_or s 0 0 ≡ 36 → 97 ≤ get_or s 1 0 → get_or s 1 0 ≤ 104 → Some (get_or s 1 0 - 97) ≡ cell_named s
unfolding cell_named
letter_names [] l e h k = absurd (omega arith)
letter_names (a ∷ []) l e h k = absurd (omega arith)
letter_names (a ∷ b ∷ s) l e h k = grind (arith, nat_tests)

pub other_names_none : (s : List ℕ) → (get_or s 0 0 ≢ 36) ⊎ ((get_or s 1 0 < 97) ⊎ (104 < get_or s 1 0)) → None ≡ cell_named s
unfolding cell_named
other_names_none [] h = refl
other_names_none (a ∷ []) h = refl
other_names_none (a ∷ b ∷ s) h = grind (arith, nat_tests)

-- ---- runs of bytes

pub wrote_run : (was s : List ℕ) (n : ℕ) (now : List ℕ) → n ≡ min (length s) (length was) → now ≡ take n s
    → Wrote was 0 (length was) (take (length was) s) n (now ++ drop n was)
wrote_run was s n now e f =
    let m : n ≡ min (length was) (length s) = omega arith in
    let t : now ≡ take (length was) s = f ∙ rw m (take_min (length was) s) in
    let l : n ≡ length (take (length was) s) = omega (arith, length-take (length was) s) in
    record {
      end = omega arith;
      within = omega arith;
      bytes = rw (t, l) (sym (write_over was (take (length was) s) (omega arith)));
    }

-- one byte, where there is room for it
pub wrote_none : (was : List ℕ) (b : ℕ) → length was ≡ 0 → Wrote was 0 (length was) (take (length was) (b ∷ [])) 0 was
wrote_none [] b h = record { end = refl; within = omega arith; bytes = refl }
wrote_none (a ∷ was) b h = absurd (omega arith)

pub wrote_one : (was : List ℕ) (b : ℕ) → 0 < length was → Wrote was 0 (length was) (take (length was) (b ∷ [])) 1 (set was 0 b)
wrote_one [] b h = absurd (omega arith)
wrote_one (a ∷ was) b h = rw (take-nil (length was)) (record { end = refl; within = omega arith; bytes = refl })

-- a decimal that was written apart is put as it is
pub wrote_decimal : (was text out now : List ℕ) (k r v : ℕ) → length was ≡ 20 → Wrote was 0 20 (decimal v) k text
    → Wrote out 0 (length out) (take (length out) (take k text)) r now → Wrote out 0 (length out) (take (length out) (decimal v)) r now
wrote_decimal was text out now k r v z w f =
    let e : k ≡ length (decimal v) = omega (arith, w.end) in
    let t : take k text ≡ decimal v = rw (e, w.bytes) (take_write was (decimal v) (omega (arith, length_decimal v))) in
    rw t at f

module _ (out : List ℕ) (n : ℕ) where
  -- the bytes from a place on, which are lent
  abbrev pub room : List ℕ
  room = take (length out - n) (drop n out)

  wrote_behind : (xs part : List ℕ) (r : ℕ) → n ≤ length out → Wrote room 0 (length room) (take (length room) xs) r part
      → Wrote out n (length out - n) (take (length out - n) xs) (n + r) (put_mid n (length out - n) out part)
  wrote_behind xs part r h w =
      let p : length room ≡ length out - n = omega (arith, length-take (length out - n) (drop n out), length-drop n out) in
      let l = length-take (length out - n) xs in
      let v = rw p at w in
      record {
        end = omega (arith, v.end);
        within = omega (arith, v.within);
        bytes = ap (put_mid n (length out - n) out) v.bytes ∙ write_part out n (length out - n) (take (length out - n) xs) h (omega arith);
      }

  -- a run more, into those bytes
  pub part_more : {most at : ℕ} {text was rest : List ℕ} (xs behind part : List ℕ) (r : ℕ) → length out ≡ most → rest ≡ xs ++ behind
      → Wrote room 0 (length room) (take (length room) xs) r part → Rest most at text was out n rest
      → Rest most at text was (put_mid n (length out - n) out part) (n + r) behind
  part_more xs behind part r q e w f = run_more xs behind _ _ _ _ q e (wrote_behind xs part r (omega (arith, f.within)) w) f

-- ---- the line by its front

pub line_end : (cells s : List ℕ) → length s < 1 → expanded_by cells s ≡ []
unfolding expanded_by
line_end cells [] h = refl
line_end cells (a ∷ s) h = absurd (omega arith)

pub line_plain : (cells s : List ℕ) → 0 < length s → cell_named s ≡ None → expanded_by cells s ≡ get_or s 0 0 ∷ expanded_by cells (from 1 s)
unfolding expanded_by
line_plain cells [] h e = absurd (omega arith)
line_plain cells (a ∷ []) h e = refl
line_plain cells (a ∷ b ∷ s) h e = rw (e, from_drop 1 (a ∷ b ∷ s))

pub named_long : (s : List ℕ) (k : ℕ) → cell_named s ≡ Some k → 2 ≤ length s
unfolding cell_named
named_long [] k e = cc
named_long (a ∷ []) k e = cc
named_long (a ∷ b ∷ s) k e = omega arith

pub line_number : (cells s : List ℕ) (k v : ℕ) → cell_named s ≡ Some k → v ≡ get_or cells k 0 → expanded_by cells s ≡ decimal v ++ expanded_by cells (from 2 s)
unfolding expanded_by
line_number cells [] k v e f = absurd (omega (arith, named_long [] k e))
line_number cells (a ∷ []) k v e f = absurd (omega (arith, named_long (a ∷ []) k e))
line_number cells (a ∷ b ∷ s) k v e f = rw (e, f, from_drop 2 (a ∷ b ∷ s))
