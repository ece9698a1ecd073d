-- Any cutting of an input into pieces writes what the rules write for the whole of it. Assumes nothing.
use Prim.Native.Nat.{ℕ}
use native.Mathlib.Omega.{arith}
use native.Mathlib.Nat.{zero-add}
use mathlib.Core.Path.{◌≡◌, refl, sym, ap, ◌∙◌}
use mathlib.Core.Bool.{Bool, true, false}
use mathlib.Core.List.{List, [], ◌∷◌, ◌++◌, append-nil}
use lib.ListN.{length, take, drop}
use lib.Dec.{ltb}
use borrow.Author.Tests.{ltb-true, ltb-false, eq-eqb, ne_eqb}
use Rattle.std.specs.Prelude.{Result, Ok, Err}
use Rattle.rules.specs.Instance.{Instance}
use Rattle.rules.specs.declared.codes.VfsError.{VfsError}
use Rattle.rules.specs.declared.codes.VfsError.TheVariants.{Small}
use Rattle.rules.specs.Whole.{session}
use Rattle.le.specs.Mem.{write}
use Rattle.le.proofs.Writes.{take_write}
use Rattle.tables.specs.View.{view}
use Rattle.tables.specs.Laid.{laid}
use Rattle.session_script.specs.Step.{by_bytes, by_rules}
use Rattle.session_script.specs.Feed.{FeedGoing, start, accepts, goes, went, viewed, Feeds, last_text, last_next, end_accepts, Finishes}
use Rattle.session_script.specs.Runs.{used_in, wrote_in, kept_in, Feed, Finish, FeedRun, written, WholeOf, EveryCutting}
use Rattle.session_script.specs.declared.Fed.{Fed}
use Rattle.session_script.proofs.Going.{same_end}
use Rattle.session_script.proofs.Lines.{last_text_lem, last_instance, none_text, none_instance}
use Rattle.session_script.proofs.Begun.{Begun, begun_none, begun_text, begun_next, Leads, goes_leads}

-- ---- one feed

-- from a begun line a feed writes a text and leaves a begun line: the session of the input goes on from there
record Moves (mem line piece : List ℕ) (after carried : List ℕ) (kept used : ℕ) (text : List ℕ) : Type 0 where
  line_after : List ℕ
  begun : Begun carried kept line_after
  says : (s : List ℕ) → (session (view mem) (line ++ (piece ++ s))).text ≡ text ++ (session (view after) (line_after ++ (drop used piece ++ s))).text
  leaves : (s : List ℕ) → (session (view mem) (line ++ (piece ++ s))).instance ≡ (session (view after) (line_after ++ (drop used piece ++ s))).instance

module _ (mem carry : List ℕ) (kept : ℕ) (piece out : List ℕ) (r : Result Fed VfsError) (after carried left : List ℕ) (f : Feeds mem carry kept piece out r after carried left) where
  abbrev G : FeedGoing (List ℕ)
  G = goes (List ℕ) by_bytes mem carry kept piece (length out)

  pub used_by : (t : Bool) → accepts carry kept ≡ t → used_in r ≡ G.used
  unfolding used_in goes went start
  used_by true e = ap used_in f.answer ∙ rw e
  used_by false e = ap used_in f.answer ∙ rw e

  pub wrote_by : (t : Bool) → accepts carry kept ≡ t → wrote_in r ≡ length G.text
  unfolding wrote_in goes went start
  wrote_by true e = ap wrote_in f.answer ∙ rw e
  wrote_by false e = ap wrote_in f.answer ∙ rw e

  pub kept_by : (t : Bool) → accepts carry kept ≡ t → kept_in kept r ≡ G.kept
  unfolding kept_in goes went start
  kept_by true e = ap (kept_in kept) f.answer ∙ rw e
  kept_by false e = ap (kept_in kept) f.answer ∙ rw e

  written_text : take (wrote_in r) left ≡ G.text
  written_text = (λ j. take (wrote_by _ refl j) (f.text j)) ∙ take_write out G.text f.within

  module _ (l : laid mem ≡ true) (line : List ℕ) (v : Begun carry kept line) where
    moves : Moves mem line piece after carried (kept_in kept r) (used_in r) (take (wrote_in r) left)
    unfolding viewed start
    moves =
        let d : Leads (start Instance (view mem) carry kept) line piece (goes Instance by_rules (view mem) carry kept piece (length out)) =
        goes_leads (view mem) carry kept piece (length out) line v in
        let s : viewed G ≡ goes Instance by_rules (view mem) carry kept piece (length out) = f.stands l in
        let state : (goes Instance by_rules (view mem) carry kept piece (length out)).state ≡ view after = sym (ap view f.bytes ∙ (λ j. (s j).state)) in
        let text : d.more ≡ take (wrote_in r) left = sym (written_text ∙ (λ j. (s j).text) ∙ d.text) in
        let used : d.n ≡ used_in r = sym (used_by _ refl ∙ (λ j. (s j).used) ∙ d.used ∙ zero-add d.n) in
        let many : (goes Instance by_rules (view mem) carry kept piece (length out)).kept ≡ kept_in kept r = sym (kept_by _ refl ∙ (λ j. (s j).kept)) in
        let begun : (goes Instance by_rules (view mem) carry kept piece (length out)).carry ≡ carried = sym (f.begun ∙ (λ j. (s j).carry)) in
        record {
          line_after = d.line_after;
          begun = rw (← begun, ← many) d.begun;
          says = λ m. d.says m ∙ (λ j. text j ++ (session (state j) (d.line_after ++ (drop (used j) piece ++ m))).text);
          leaves = λ m. d.leaves m ∙ (λ j. (session (state j) (d.line_after ++ (drop (used j) piece ++ m))).instance);
        }

-- ---- the finish

-- a begun line with a byte is kept as one
kept_some : (carry : List ℕ) (kept b : ℕ) (line : List ℕ) → Begun carry kept (b ∷ line) → (t : Bool) → ltb 8192 (length (b ∷ line)) ≡ t → kept ≡ 0 → ⊥
kept_some carry kept b line v true e z = omega (arith, v.long (ltb-true 8192 (length (b ∷ line)) e))
kept_some carry kept b line v false e z = omega (arith, (v.short (ltb-false 8192 (length (b ∷ line)) e)).0)

module _ (i : Instance) (carry : List ℕ) (kept : ℕ) where
  last_says : (line : List ℕ) → Begun carry kept line → last_text Instance by_rules i carry kept ≡ (session i line).text
  unfolding last_text
  last_says [] v = rw (eq-eqb kept 0 (v.short (omega arith)).0) (sym (none_text i))
  last_says (b ∷ line) v =
      rw (ne_eqb kept 0 (kept_some carry kept b line v _ refl))
      (begun_text i carry kept (b ∷ line) v ∙ sym (last_text_lem i b line v.plain))

  last_leaves : (line : List ℕ) → Begun carry kept line → last_next Instance by_rules i carry kept ≡ (session i line).instance
  unfolding last_next
  last_leaves [] v = rw (eq-eqb kept 0 (v.short (omega arith)).0) (sym (none_instance i))
  last_leaves (b ∷ line) v =
      rw (ne_eqb kept 0 (kept_some carry kept b line v _ refl))
      (begun_next i carry kept (b ∷ line) v ∙ sym (last_instance i b line v.plain))

same_last : (mem carry : List ℕ) (kept : ℕ) → laid mem ≡ true → last_text (List ℕ) by_bytes mem carry kept ≡ last_text Instance by_rules (view mem) carry kept
unfolding last_text
same_last mem carry kept l = rw (same_end mem carry kept l)

module _ (mem carry : List ℕ) (kept : ℕ) (out : List ℕ) (w : ℕ) (after left : List ℕ) (f : Finishes mem carry kept out (Ok w) after left) where
  accepted : (t : Bool) → end_accepts carry kept (length out) ≡ t → end_accepts carry kept (length out) ≡ true
  accepted true e = e
  accepted false e =
      let a : ◌≡◌ {A = Result ℕ VfsError} (Ok w) (Err Small) = f.answer ∙ rw e in
      absurd (let z : ◌≡◌ {A = ℕ} 0 1 = cc in let y : ⊥ = omega arith in y)

  on : end_accepts carry kept (length out) ≡ true
  on = accepted _ refl

  wrote_last : w ≡ length (last_text (List ℕ) by_bytes mem carry kept)
  wrote_last =
      let a : ◌≡◌ {A = Result ℕ VfsError} (Ok w) (Ok (length (last_text (List ℕ) by_bytes mem carry kept))) = f.answer ∙ rw on in
      cc

  last_written : take w left ≡ last_text (List ℕ) by_bytes mem carry kept
  last_written =
      let t : left ≡ write out 0 (last_text (List ℕ) by_bytes mem carry kept) = f.text ∙ rw on in
      (λ j. take (wrote_last j) (t j)) ∙ take_write out _ (f.within on)

-- ---- all of it

module _ (f : Finish) where
  whole : (ss : List Feed) (input mem carry : List ℕ) (kept : ℕ) (line : List ℕ) → laid mem ≡ true → Begun carry kept line → FeedRun input mem carry kept ss f → WholeOf (line ++ input) mem ss f
  unfolding FeedRun written
  whole [] input mem carry kept line l v (e, r) =
      let n : line ++ input ≡ line = ap (λ (x : List ℕ). line ++ x) e ∙ append-nil line in
      record {
        text =
            last_written mem carry kept f.out f.wrote f.after f.left r
            ∙ same_last mem carry kept l
            ∙ last_says (view mem) carry kept line v
            ∙ (λ j. (session (view mem) (sym n j)).text);
        stands =
            r.stands l
            ∙ rw (on mem carry kept f.out f.wrote f.after f.left r) (last_leaves (view mem) carry kept line v)
            ∙ (λ j. (session (view mem) (sym n j)).instance);
        keeps = r.keeps l;
      }
  whole (s ∷ ss) input mem carry kept line l v (e, (r, rs)) =
      let m : Moves mem line s.piece s.after s.carried (kept_in kept s.answer) (used_in s.answer) (take (wrote_in s.answer) s.left) =
      moves mem carry kept s.piece s.out s.answer s.after s.carried s.left r l line v in
      let w : WholeOf (m.line_after ++ (drop (used_in s.answer) s.piece ++ s.more)) s.after ss f =
      whole ss (drop (used_in s.answer) s.piece ++ s.more) s.after s.carried (kept_in kept s.answer) m.line_after (r.keeps l) m.begun rs in
      record {
        text =
            ap (λ (x : List ℕ). take (wrote_in s.answer) s.left ++ x) w.text
            ∙ sym (m.says s.more)
            ∙ (λ j. (session (view mem) (line ++ sym e j)).text);
        stands = w.stands ∙ sym (m.leaves s.more) ∙ (λ j. (session (view mem) (line ++ sym e j)).instance);
        keeps = w.keeps;
      }

-- the theorem
pub every_cutting : EveryCutting
every_cutting input mem carry ss f l r = whole f ss input mem carry 0 [] l (begun_none carry) r
