-- A `?` changes nothing, no text has a line end, and the contract allows one result only. Assumes nothing.
use Prim.Native.Nat.{ℕ, zero, suc, ◌+◌, ◌/◌, ◌%◌, ◌<◌}
use native.Mathlib.Omega.{arith}
use mathlib.Core.Path.{◌≡◌, refl, sym, ap, ◌∙◌}
use mathlib.Core.Bool.{Bool, true, false, cond, ◌||◌, true≢false}
use mathlib.Core.List.{List, [], ◌∷◌, ◌++◌}
use Rattle.std.specs.Prelude.{Option, None, Some}
use lib.Dec.{eqb, ltb}
use borrow.Author.Tests.{ltb-true, ltb-false, ne_eqb}
use Rattle.rules.specs.Bytes.{holds, ascii}
use Rattle.rules.specs.Instance.{Instance}
use Rattle.rules.specs.Outcome.{Answer, nothing, mounted, restored_mount, unmounted, walked, rootfs, to_tree, to_backend, entry, ids, wrote, settings, truth, Outcome}
use Rattle.rules.specs.Session.{Line, mount, umount, walk, look, digits, decimal, joined, numbers, text_of, routed, line_reply, answers, parsed, reply_to}
use Rattle.tables.specs.View.{view}
use Rattle.tables.specs.Laid.{laid}
use Rattle.mount_parts.specs.Mounting.{mount_mem}
use Rattle.vfs.specs.Unmounting.{unmount_mem}
use Rattle.decimal.proofs.Texts.{small, large}
use Rattle.session_calls.specs.Answered.{small_text, line_text, line_mem}
use Rattle.session_line.proofs.Replying.{question_text}
use Rattle.session_line.specs.Claims.{QuestionStill, QuestionStillBytes, NoFormQuestion, OneLine, SmallStill, OneReply}

-- ---- bytes that stand in no text but `?`: no digit, no space, no `r`

module _ (b : ℕ) (no_digit : (n : ℕ) → n < 10 → 48 + n ≡ b → ⊥) (no-space : 32 ≡ b → ⊥) (no-r : 114 ≡ b → ⊥) where
  holds_append : (xs ys : List ℕ) → holds b xs ≡ false → holds b ys ≡ false → holds b (xs ++ ys) ≡ false
  unfolding holds
  holds_append [] ys e f = f
  holds_append (x ∷ xs) ys e f = go (eqb x b) (λ (h : holds b xs ≡ false). holds_append xs ys h f) e
    where
      go : (t : Bool) → (holds b xs ≡ false → holds b (xs ++ ys) ≡ false) → (t || holds b xs) ≡ false → (t || holds b (xs ++ ys)) ≡ false
      go true k h = h
      go false k h = k h

  one_digit : (n : ℕ) → n < 10 → holds b ((48 + n) ∷ []) ≡ false
  unfolding holds
  one_digit n h = rw (ne_eqb (48 + n) b (no_digit n h))

  in_digits : (k n : ℕ) (t : Bool) → ltb n 10 ≡ t → holds b (digits k n) ≡ false
  in_digits zero n t e = unfold digits holds in refl
  in_digits (suc k) n true e = rw (small k n (ltb-true n 10 e)) (one_digit n (ltb-true n 10 e))
  in_digits (suc k) n false e =
      rw (large k n (ltb-false n 10 e)) (holds_append (digits k (n / 10)) ((48 + n % 10) ∷ []) (in_digits k (n / 10) _ refl) (one_digit (n % 10) (omega arith)))

  in_decimal : (n : ℕ) → holds b (decimal n) ≡ false
  unfolding decimal
  in_decimal n = in_digits 20 n _ refl

  behind_space : (s : List ℕ) → holds b s ≡ false → holds b (32 ∷ s) ≡ false
  unfolding holds
  behind_space s e = rw (ne_eqb 32 b no-space) e

  in_numbers : (ns : List ℕ) → holds b (joined (numbers ns)) ≡ false
  unfolding joined numbers holds
  in_numbers [] = refl
  in_numbers (n ∷ []) = in_decimal n
  in_numbers (n ∷ m ∷ ns) = holds_append (decimal n) (32 ∷ joined (numbers (m ∷ ns))) (in_decimal n) (behind_space (joined (numbers (m ∷ ns))) (in_numbers (m ∷ ns)))

  in_text : (ns : List ℕ) → holds b (text_of ns) ≡ false
  unfolding text_of
  in_text ns = in_numbers ns

  in_r : holds b (ascii "r") ≡ false
  unfolding holds ascii
  in_r = rw (ne_eqb 114 b no-r)

  in_backend : (t x : ℕ) → holds b (joined (ascii "r" ∷ numbers (t ∷ x ∷ []))) ≡ false
  unfolding joined numbers
  in_backend t x = holds_append (ascii "r") (32 ∷ joined (numbers (t ∷ x ∷ []))) in_r (behind_space (joined (numbers (t ∷ x ∷ []))) (in_numbers (t ∷ x ∷ [])))

  in_routed : (i : Instance) (p : List ℕ) (o : Outcome) (a : Answer) → holds b (routed i p o a).text ≡ false
  unfolding routed
  in_routed i p o nothing = in_text _
  in_routed i p o (mounted k t) = in_text _
  in_routed i p o (restored_mount a c) = in_text _
  in_routed i p o (unmounted x q t) = in_text _
  in_routed i p o (walked x) = in_text _
  in_routed i p o (rootfs r) = in_text _
  in_routed i p o (to_tree x) = in_text _
  in_routed i p o (to_backend t k x) = in_backend t x
  in_routed i p o (entry x mode uid gid size) = in_text _
  in_routed i p o (ids u g) = in_text _
  in_routed i p o (wrote n) = in_text _
  in_routed i p o (settings s) = in_text _
  in_routed i p o (truth t) = in_text _

  in_says : (i : Instance) (l : Line) → holds b (line_reply i l).text ≡ false
  unfolding line_reply
  in_says i (mount path tag root largest) = in_text _
  in_says i (umount path) = in_text _
  in_says i (walk path) = in_text _
  in_says i (look x p) = in_routed i p _ _

  in_small : (l : Line) → holds b (small_text (Some l)) ≡ false
  unfolding small_text
  in_small (mount path tag root largest) = in_text _
  in_small (umount path) = in_text _
  in_small (walk path) = in_text _
  in_small (look x p) = in_text _

-- ---- a line end

in_question : holds 10 (ascii "?") ≡ false
unfolding holds ascii
in_question = refl

end_in_answers : (i : Instance) (l : Option Line) → holds 10 (answers i l).text ≡ false
unfolding answers
end_in_answers i None = in_question
end_in_answers i (Some l) = in_says 10 (λ n h e. omega arith) (λ e. omega arith) (λ e. omega arith) i l

end_in_small : (l : Option Line) → holds 10 (small_text l) ≡ false
end_in_small None = unfold small_text in in_question
end_in_small (Some l) = in_small 10 (λ n h e. omega arith) (λ e. omega arith) (λ e. omega arith) l

pub one_line : OneLine
unfolding line_text
one_line mem line = go (laid mem)
  where
    go : (t : Bool) → holds 10 (cond t (answers (view mem) (parsed line)).text (small_text (parsed line))) ≡ false
    go true = end_in_answers (view mem) (parsed line)
    go false = end_in_small (parsed line)

-- ---- `?`

question_held : holds 63 (ascii "?") ≡ true
unfolding holds ascii
question_held = refl

not_question : (s : List ℕ) → holds 63 s ≡ false → s ≡ ascii "?" → ⊥
not_question s e f = true≢false (sym question_held ∙ ap (holds 63) (sym f) ∙ e)

no_form : (i : Instance) (l : Option Line) → (answers i l).text ≡ ascii "?" → (l ≡ None) × ((answers i l).instance ≡ i)
unfolding answers
no_form i None e = (refl, refl)
no_form i (Some l) e = absurd (not_question _ (in_says 63 (λ n h f. omega arith) (λ f. omega arith) (λ f. omega arith) i l) e)

no_form_small : (l : Option Line) → small_text l ≡ ascii "?" → l ≡ None
no_form_small None e = refl
no_form_small (Some l) e = absurd (not_question _ (in_small 63 (λ n h f. omega arith) (λ f. omega arith) (λ f. omega arith) l) e)

pub question_still : QuestionStill
unfolding reply_to
question_still i line e = no_form i (parsed line) e

pub question_still_bytes : QuestionStillBytes
unfolding line_text line_mem
question_still_bytes mem line e =
    let n = go (laid mem) e in
    (n, ap (λ (l : Option Line). line_mem l mem) n)
  where
    go : (t : Bool) → cond t (answers (view mem) (parsed line)).text (small_text (parsed line)) ≡ ascii "?" → parsed line ≡ None
    go true f = (no_form (view mem) (parsed line) f).0
    go false f = no_form_small (parsed line) f

pub no_form_question : NoFormQuestion
no_form_question mem line e = rw e (question_text mem)

-- ---- bytes against the layout rule

small_line : (mem : List ℕ) (l : Option Line) → laid mem ≡ false → line_mem l mem ≡ mem
unfolding line_mem mount_mem unmount_mem
small_line mem None h = refl
small_line mem (Some (mount path tag root largest)) h = rw h
small_line mem (Some (umount path)) h = rw h
small_line mem (Some (walk path)) h = refl
small_line mem (Some (look x p)) h = refl

pub small_still : SmallStill
small_still mem line h = small_line mem (parsed line) h

-- ---- one result

pub one_reply : OneReply
one_reply mem l was left out after end f g =
    (f.text.wrote.end ∙ sym g.text.wrote.end, (f.text.wrote.bytes ∙ sym g.text.wrote.bytes, f.bytes ∙ sym g.bytes))
