-- The begun line and what the carry keeps of it; where the bytes of a piece lead, by the rules. Assumes nothing.
use Prim.Native.Nat.{ℕ, suc, ◌+◌, ◌-◌, ◌≤◌, ◌<◌}
use native.Mathlib.Omega.{arith}
use native.Mathlib.Numerals.{add-one}
use mathlib.Core.Path.{◌≡◌, refl, sym, ap, ◌∙◌}
use mathlib.Core.Bool.{Bool, true, false}
use mathlib.Core.List.{List, [], ◌∷◌, ◌++◌, append_assoc, append-nil}
use lib.ListN.{length, take, drop, length-append}
use lib.Seq.{take-suc-set, append_snoc}
use lib.Dec.{eqb, ltb}
use borrow.Author.Tests.{ltb-true, ltb-false, lt-ltb, le-ltb, eqb-true}
use Rattle.rules.specs.Bytes.{ascii}
use Rattle.rules.specs.Instance.{Instance}
use Rattle.rules.specs.Session.{parsed, answers, reply_to}
use Rattle.rules.specs.Whole.{session}
use Rattle.session_script.specs.Step.{by_rules, end_text, end_next, byte_text, byte_next, byte_carry, byte_kept}
use Rattle.session_script.specs.Feed.{FeedGoing, start, feed_step, fed, accepts, goes}
use Rattle.session_script.proofs.Carry.{length_carry, accepts_wide}
use Rattle.session_script.proofs.Lines.{Plain, plain_more, ends_text, ends_instance}

-- up to 8,192 bytes the carry has them; of a longer line only that it is one (R150)
pub record Begun (carry : List ℕ) (kept : ℕ) (line : List ℕ) : Type 0 where
  pub short : length line ≤ 8192 → (kept ≡ length line) × (take kept carry ≡ line)
  pub long : 8192 < length line → kept ≡ 8193
  pub plain : Plain line

pub begun_none : (carry : List ℕ) → Begun carry 0 []
begun_none carry = record { short = λ h. (refl, refl); long = λ h. absurd (let z : ⊥ = omega arith in z); plain = tt }

-- ---- at its end

-- a line over the limit has no form (R150)
over : (i : Instance) (line : List ℕ) → 8192 < length line → reply_to i line ≡ record { text = ascii "?"; instance = i }
unfolding reply_to parsed answers
over i line h = rw (lt-ltb 8192 (length line) h)

module _ (i : Instance) (carry : List ℕ) (kept : ℕ) (line : List ℕ) (v : Begun carry kept line) where
  end_text_lem : (t : Bool) → ltb 8192 (length line) ≡ t → end_text Instance by_rules i carry kept ≡ (reply_to i line).text ++ (10 ∷ [])
  unfolding end_text
  end_text_lem true e = rw (v.long (ltb-true 8192 (length line) e), over i line (ltb-true 8192 (length line) e))
  end_text_lem false e =
      let s : (kept ≡ length line) × (take kept carry ≡ line) = v.short (ltb-false 8192 (length line) e) in
      rw (le-ltb 8192 kept (omega (arith, s.0, ltb-false 8192 (length line) e)), s.1)

  end_next_lem : (t : Bool) → ltb 8192 (length line) ≡ t → end_next Instance by_rules i carry kept ≡ (reply_to i line).instance
  unfolding end_next
  end_next_lem true e = rw (v.long (ltb-true 8192 (length line) e), over i line (ltb-true 8192 (length line) e))
  end_next_lem false e =
      let s : (kept ≡ length line) × (take kept carry ≡ line) = v.short (ltb-false 8192 (length line) e) in
      rw (le-ltb 8192 kept (omega (arith, s.0, ltb-false 8192 (length line) e)), s.1)

  pub begun_text : end_text Instance by_rules i carry kept ≡ (reply_to i line).text ++ (10 ∷ [])
  begun_text = end_text_lem _ refl

  pub begun_next : end_next Instance by_rules i carry kept ≡ (reply_to i line).instance
  begun_next = end_next_lem _ refl

-- ---- one byte joins it

module _ (carry : List ℕ) (kept : ℕ) (line : List ℕ) (w : 8192 ≤ length carry) (v : Begun carry kept line) (b : ℕ) (n : eqb b 10 ≡ false) where
  grown : length (line ++ (b ∷ [])) ≡ length line + 1
  grown = length-append line (b ∷ [])

  kept_least : 8192 ≤ length line → (t : Bool) → ltb 8192 (length line) ≡ t → 8192 ≤ kept
  kept_least h true e = omega (arith, v.long (ltb-true 8192 (length line) e))
  kept_least h false e = omega (arith, (v.short (ltb-false 8192 (length line) e)).0)

  joins : (t : Bool) → ltb (length line) 8192 ≡ t → Begun (byte_carry carry kept b) (byte_kept kept b) (line ++ (b ∷ []))
  unfolding byte_carry byte_kept
  joins true e =
      let l : length line < 8192 = ltb-true (length line) 8192 e in
      let s : (kept ≡ length line) × (take kept carry ≡ line) = v.short (omega arith) in
      let k : ltb kept 8192 ≡ true = lt-ltb kept 8192 (omega (arith, s.0)) in
      record {
        short = λ h. (rw (n, k) (omega (arith, s.0, grown)), rw (n, k, add-one, take-suc-set carry kept b (omega (arith, s.0)), s.1));
        long = λ h. absurd (let z : ⊥ = omega (arith, grown) in z);
        plain = plain_more line b v.plain n;
      }
  joins false e =
      let l : 8192 ≤ length line = ltb-false (length line) 8192 e in
      let k : ltb kept 8192 ≡ false = le-ltb kept 8192 (kept_least l _ refl) in
      record {
        short = λ h. absurd (let z : ⊥ = omega (arith, grown) in z);
        long = λ h. rw (n, k);
        plain = plain_more line b v.plain n;
      }

-- ---- where bytes lead, by the rules

-- one byte, from a begun line: the text that it gives, the line that is then begun, and what a session makes of all that follows
record Byte (g : FeedGoing Instance) (line : List ℕ) (b : ℕ) (h : FeedGoing Instance) : Type 0 where
  more : List ℕ
  text : h.text ≡ g.text ++ more
  line_after : List ℕ
  begun : Begun h.carry h.kept line_after
  wide : length h.carry ≡ length g.carry
  used : h.used ≡ g.used + 1
  says : (s : List ℕ) → (session g.state (line ++ (b ∷ s))).text ≡ more ++ (session h.state (line_after ++ s)).text
  leaves : (s : List ℕ) → (session g.state (line ++ (b ∷ s))).instance ≡ (session h.state (line_after ++ s)).instance

module _ (g : FeedGoing Instance) (line : List ℕ) (v : Begun g.carry g.kept line) (b : ℕ) where
  byte_end : eqb b 10 ≡ true → Byte g line b (feed_step Instance by_rules b g)
  unfolding feed_step byte_text byte_next byte_carry byte_kept
  byte_end e =
      let q : b ≡ 10 = eqb-true b 10 e in
      let x : byte_text Instance by_rules g.state g.carry g.kept b ≡ (reply_to g.state line).text ++ (10 ∷ []) =
      rw e (begun_text g.state g.carry g.kept line v) in
      let y : byte_next Instance by_rules g.state g.carry g.kept b ≡ (reply_to g.state line).instance =
      rw e (begun_next g.state g.carry g.kept line v) in
      record {
        more = byte_text Instance by_rules g.state g.carry g.kept b;
        text = refl;
        line_after = [];
        begun = rw e (begun_none g.carry);
        wide = rw e;
        used = refl;
        says = λ s. (λ i. (session g.state (line ++ (q i ∷ s))).text) ∙ ends_text g.state line s v.plain ∙ sym (λ i. x i ++ (session (y i) s).text);
        leaves = λ s. (λ i. (session g.state (line ++ (q i ∷ s))).instance) ∙ ends_instance g.state line s v.plain ∙ sym (λ i. (session (y i) s).instance);
      }

  byte_join : 8192 ≤ length g.carry → eqb b 10 ≡ false → Byte g line b (feed_step Instance by_rules b g)
  unfolding feed_step byte_text byte_next
  byte_join w e =
      record {
        more = [];
        text = rw e;
        line_after = line ++ (b ∷ []);
        begun = joins g.carry g.kept line w v b e _ refl;
        wide = length_carry g.carry g.kept b;
        used = refl;
        says = λ s. rw e (ap (λ (l : List ℕ). (session g.state l).text) (sym (append_snoc line b s)));
        leaves = λ s. rw e (ap (λ (l : List ℕ). (session g.state l).instance) (sym (append_snoc line b s)));
      }

  byte : 8192 ≤ length g.carry → (t : Bool) → eqb b 10 ≡ t → Byte g line b (feed_step Instance by_rules b g)
  byte w true e = byte_end e
  byte w false e = byte_join w e

-- the first n of some bytes
pub record Leads (g : FeedGoing Instance) (line bytes : List ℕ) (h : FeedGoing Instance) : Type 0 where
  pub n : ℕ
  pub used : h.used ≡ g.used + n
  pub more : List ℕ
  pub text : h.text ≡ g.text ++ more
  pub line_after : List ℕ
  pub begun : Begun h.carry h.kept line_after
  pub says : (s : List ℕ) → (session g.state (line ++ (bytes ++ s))).text ≡ more ++ (session h.state (line_after ++ (drop n bytes ++ s))).text
  pub leaves : (s : List ℕ) → (session g.state (line ++ (bytes ++ s))).instance ≡ (session h.state (line_after ++ (drop n bytes ++ s))).instance

leads_none : (g : FeedGoing Instance) (line bytes : List ℕ) → Begun g.carry g.kept line → Leads g line bytes g
leads_none g line bytes v = record {
  n = 0;
  used = omega arith;
  more = [];
  text = sym (append-nil g.text);
  line_after = line;
  begun = v;
  says = λ s. refl;
  leaves = λ s. refl;
}

leads_more : (g : FeedGoing Instance) (line : List ℕ) (b : ℕ) (bs : List ℕ) (m h : FeedGoing Instance) (f : Byte g line b m) → Leads m f.line_after bs h → Leads g line (b ∷ bs) h
leads_more g line b bs m h f r = record {
  n = suc r.n;
  used = omega (arith, f.used, r.used);
  more = f.more ++ r.more;
  text = r.text ∙ ap (λ (l : List ℕ). l ++ r.more) f.text ∙ append_assoc g.text f.more r.more;
  line_after = r.line_after;
  begun = r.begun;
  says = λ s. f.says (bs ++ s) ∙ ap (λ (l : List ℕ). f.more ++ l) (r.says s) ∙ sym (append_assoc f.more r.more _);
  leaves = λ s. f.leaves (bs ++ s) ∙ r.leaves s;
}

module _ (room : ℕ) where
  by_room : (b : ℕ) (bs : List ℕ) (g : FeedGoing Instance) (line : List ℕ) → Begun g.carry g.kept line
      → Leads g line (b ∷ bs) (fed Instance by_rules room bs (feed_step Instance by_rules b g)) → (t : Bool) → ltb (room - length g.text) 64 ≡ t
      → Leads g line (b ∷ bs) (fed Instance by_rules room (b ∷ bs) g)
  unfolding fed
  by_room b bs g line v r true e = rw e (leads_none g line (b ∷ bs) v)
  by_room b bs g line v r false e = rw e r

  leads : (piece : List ℕ) (g : FeedGoing Instance) (line : List ℕ) → 8192 ≤ length g.carry → Begun g.carry g.kept line
      → Leads g line piece (fed Instance by_rules room piece g)
  unfolding fed
  leads [] g line w v = leads_none g line [] v
  leads (b ∷ bs) g line w v =
      let f : Byte g line b (feed_step Instance by_rules b g) = byte g line v b w _ refl in
      by_room b bs g line v (leads_more g line b bs _ _ f (leads bs (feed_step Instance by_rules b g) f.line_after (omega (arith, f.wide)) f.begun)) _ refl

-- a whole feed, refused or not
module _ (i : Instance) (carry : List ℕ) (kept : ℕ) (piece : List ℕ) (room : ℕ) (line : List ℕ) (v : Begun carry kept line) where
  goes_by : (t : Bool) → accepts carry kept ≡ t → Leads (start Instance i carry kept) line piece (goes Instance by_rules i carry kept piece room)
  unfolding goes start
  goes_by true e = rw e (leads room piece (start Instance i carry kept) line (accepts_wide carry kept e) v)
  goes_by false e = rw e (leads_none (start Instance i carry kept) line piece v)

  pub goes_leads : Leads (start Instance i carry kept) line piece (goes Instance by_rules i carry kept piece room)
  goes_leads = goes_by _ refl
