-- A piece: where its bytes so far have led, and the laws of `feed` and `finish`, a law for each return. Assumes nothing.
use Prim.Native.Nat.{ℕ, zero, suc, ◌+◌, ◌-◌, ◌≤◌, ◌<◌}
use native.Mathlib.Omega.{arith}
use native.Mathlib.Numerals.{add-one}
use native.Mathlib.Nat.{zero-add, add-zero}
use mathlib.Core.Path.{◌≡◌, refl, sym, ap, ◌∙◌}
use mathlib.Core.Bool.{true, false, true≢false}
use mathlib.Core.List.{List, [], ◌∷◌, ◌++◌}
use lib.ListN.{length, take, drop, get_or, length-append, drop_of_length-le}
use lib.Seq.{drop-cons}
use lib.Dec.{eqb, ltb}
use borrow.Author.Tests.{lt-ltb, le-ltb, le-leb, lt-leb, eq-eqb, ne_eqb}
use Rattle.std.specs.Prelude.{Result, Ok, Err}
use Rattle.path.specs.Steps.{part, between, part_end}
use Rattle.path.proofs.Places.{here as byte_here}
use Rattle.path.proofs.Words.{end_in, end_here, end_more}
use Rattle.rules.specs.Instance.{Instance}
use Rattle.rules.specs.declared.codes.VfsError.{VfsError}
use Rattle.rules.specs.declared.codes.VfsError.TheVariants.{Small}
use Rattle.decimal.specs.declared.inner.Text.{Text}
use Rattle.rules.specs.Session.{reply_to}
use Rattle.le.specs.Mem.{write}
use Rattle.le.proofs.Lens.{write_append}
use Rattle.tables.specs.View.{view}
use Rattle.tables.specs.Laid.{laid}
use Rattle.session_calls.specs.Answered.{line_text}
use Rattle.session_script.specs.Step.{Answers, by_bytes, by_rules, end_text, byte_text, byte_carry, byte_kept, joined_carry, joined_kept, Ended, Joined, Took}
use Rattle.session_script.specs.Feed.{FeedGoing, start, feed_step, fed, accepts, goes, went, viewed, Feeds, last_text, last_next, end_accepts, Finishes}
use Rattle.session_script.proofs.Bytes.{carry_none, kept_none, carry_more, kept_more, took_join}
use Rattle.session_script.proofs.Carry.{length_carry, kept_most, accepts_true}
use Rattle.session_script.specs.declared.Fed.{Fed}

-- how far a piece has come
abbrev pub here : (S : Type 0) → S → List ℕ → ℕ → ℕ → List ℕ → FeedGoing S
here S s carry kept used text = record { state = s; carry = carry; kept = kept; used = used; text = text }

-- ---- on bytes that keep the layout rule the texts are those of the rules

same_reply : (mem line : List ℕ) → laid mem ≡ true → by_bytes.text mem line ≡ by_rules.text (view mem) line
unfolding line_text reply_to
same_reply mem line l = rw l

pub same_end : (mem carry : List ℕ) (kept : ℕ) → laid mem ≡ true → end_text (List ℕ) by_bytes mem carry kept ≡ end_text Instance by_rules (view mem) carry kept
unfolding end_text
same_end mem carry kept l = rw (same_reply mem (take kept carry) l)

same_byte : (mem carry : List ℕ) (kept b : ℕ) → laid mem ≡ true → byte_text (List ℕ) by_bytes mem carry kept b ≡ byte_text Instance by_rules (view mem) carry kept b
unfolding byte_text
same_byte mem carry kept b l = rw (same_end mem carry kept l)

-- ---- one way round

module _ (S : Type 0) (a : Answers S) (room : ℕ) where
  -- the bytes are used up
  fed_end : (bs : List ℕ) (g : FeedGoing S) → bs ≡ [] → fed S a room bs g ≡ g
  unfolding fed
  fed_end bs g e = rw e

  -- there is no room for a line
  fed_full : (b : ℕ) (bs rest : List ℕ) (g : FeedGoing S) → rest ≡ b ∷ bs → ltb (room - length g.text) 64 ≡ true → fed S a room rest g ≡ g
  unfolding fed
  fed_full b bs rest g e t = rw (e, t)

  -- one byte more
  fed_byte : (b : ℕ) (bs rest : List ℕ) (g h : FeedGoing S) → rest ≡ b ∷ bs → ltb (room - length g.text) 64 ≡ false → feed_step S a b g ≡ h
      → fed S a room rest g ≡ fed S a room bs h
  unfolding fed
  fed_byte b bs rest g h e t p = rw (e, t, p)

-- text behind text
laid_on : (out xs ys : List ℕ) → write (write out 0 xs) (length xs) ys ≡ write out 0 (xs ++ ys)
laid_on out xs ys = (λ j. write (write out 0 xs) (sym (zero-add (length xs)) j) ys) ∙ sym (write_append out 0 xs ys)

-- the invariant: what the rest of the piece leads to from here is what the whole piece leads to
pub record SoFar (mem₀ carry₀ : List ℕ) (kept₀ : ℕ) (piece out₀ mem carry : List ℕ) (t : Text) (line i : ℕ) : Type 0 where
  pub text : List ℕ
  pub place : t.at ≡ length text
  pub bytes : t.out.now ≡ write out₀ 0 text
  pub within : t.at ≤ length out₀
  pub inside : i ≤ length piece
  pub wide : length carry ≡ length carry₀
  pub fits : 8192 ≤ length carry₀
  pub few : kept₀ ≤ 8193
  pub most : line ≤ 8193
  pub long : length t.out.now ≡ length out₀
  pub rest : fed (List ℕ) by_bytes (length out₀) (drop i piece) (here (List ℕ) mem carry line i text) ≡ fed (List ℕ) by_bytes (length out₀) piece (start (List ℕ) mem₀ carry₀ kept₀)
  pub rules : laid mem₀ ≡ true → fed Instance by_rules (length out₀) (drop i piece) (here Instance (view mem) carry line i text) ≡ fed Instance by_rules (length out₀) piece (start Instance (view mem₀) carry₀ kept₀)
  pub keeps : laid mem₀ ≡ true → laid mem ≡ true

module _ (mem₀ carry₀ : List ℕ) (kept₀ : ℕ) (piece out₀ : List ℕ) where
  pub so_far_start : 8192 ≤ length carry₀ → kept₀ ≤ 8193 → (t : Text) → t.at ≡ 0 → t.out.now ≡ out₀ → SoFar mem₀ carry₀ kept₀ piece out₀ mem₀ carry₀ t kept₀ 0
  unfolding start
  so_far_start h k t z o = record {
    text = [];
    place = z;
    bytes = o;
    within = omega arith;
    inside = omega arith;
    wide = refl;
    fits = h;
    few = k;
    most = k;
    long = ap length o;
    rest = refl;
    rules = λ l. refl;
    keeps = λ l. l;
  }

  module _ (mem carry : List ℕ) (t : Text) (line i : ℕ) (v : SoFar mem₀ carry₀ kept₀ piece out₀ mem carry t line i) where
    pub so_far_more : i < length piece → 64 ≤ length t.out.now - t.at → (b : ℕ) → b ≡ get_or piece i 0 → (now : Text) (after carried : List ℕ) (many : ℕ)
        → Took mem carry line b t now after carried many → SoFar mem₀ carry₀ kept₀ piece out₀ after carried now many (i + 1)
    unfolding feed_step
    so_far_more h room b e now after carried many f =
        let more : List ℕ = byte_text (List ℕ) by_bytes mem carry line b in
        let d : drop i piece ≡ b ∷ drop (i + 1) piece = drop-cons piece i 0 h ∙ (λ j. sym e j ∷ drop (sym (add-one i) j) piece) in
        let z : ltb (length out₀ - length v.text) 64 ≡ false =
        let n : 64 ≤ length out₀ - length v.text = omega (arith, v.place, v.long) in
        le-ltb (length out₀ - length v.text) 64 n in
        let k : many ≡ byte_kept line b = f.keeps_many in
        let w : length (v.text ++ more) ≡ length v.text + length more = length-append v.text more in
        record {
          text = v.text ++ more;
          place = omega (arith, f.text.wrote.end, v.place);
          bytes = f.text.wrote.bytes ∙ (λ j. write (v.bytes j) (v.place j) more) ∙ laid_on out₀ v.text more;
          within = omega (arith, f.text.wrote.within, v.long);
          inside = omega arith;
          wide = ap length f.begun ∙ length_carry carry line b ∙ v.wide;
          fits = v.fits;
          few = v.few;
          most = rw k (kept_most line b);
          long = f.text.same_length ∙ v.long;
          rest =
              sym (fed_byte (List ℕ) by_bytes (length out₀) b (drop (i + 1) piece) (drop i piece) (here (List ℕ) mem carry line i v.text) (here (List ℕ) after carried many (i + 1) (v.text ++ more)) d z
              (λ j. here (List ℕ) (sym f.bytes j) (sym f.begun j) (sym k j) (i + 1) (v.text ++ more)))
              ∙ v.rest;
          rules =
              λ l.
              sym (fed_byte Instance by_rules (length out₀) b (drop (i + 1) piece) (drop i piece) (here Instance (view mem) carry line i v.text) (here Instance (view after) carried many (i + 1) (v.text ++ more)) d z
              (λ j. here Instance (sym (f.stands (v.keeps l)) j) (sym f.begun j) (sym k j) (i + 1) (v.text ++ sym (same_byte mem carry line b (v.keeps l)) j)))
              ∙ v.rules l;
          keeps = λ l. f.keeps (v.keeps l);
        }

    -- from where no byte more is taken, the answer is the whole one's
    ends : fed (List ℕ) by_bytes (length out₀) (drop i piece) (here (List ℕ) mem carry line i v.text) ≡ here (List ℕ) mem carry line i v.text
        → (laid mem₀ ≡ true → fed Instance by_rules (length out₀) (drop i piece) (here Instance (view mem) carry line i v.text) ≡ here Instance (view mem) carry line i v.text)
        → Feeds mem₀ carry₀ kept₀ piece out₀ (Ok (record { used = i; wrote = t.at; kept = line })) mem carry t.out.now
    unfolding goes went viewed
    ends p q =
        let a : accepts carry₀ kept₀ ≡ true = accepts_true carry₀ kept₀ v.fits v.few in
        let g : fed (List ℕ) by_bytes (length out₀) piece (start (List ℕ) mem₀ carry₀ kept₀) ≡ here (List ℕ) mem carry line i v.text = sym v.rest ∙ p in
        record {
          answer = rw (a, g, v.place);
          bytes = rw (a, g);
          begun = rw (a, g);
          text = rw (a, g) v.bytes;
          within = rw (a, g) (omega (arith, v.place, v.within));
          stands = λ l. rw (a, g) (sym (q l) ∙ v.rules l);
          keeps = v.keeps;
        }

    pub feeds_all : length piece ≤ i → Feeds mem₀ carry₀ kept₀ piece out₀ (Ok (record { used = i; wrote = t.at; kept = line })) mem carry t.out.now
    feeds_all h =
        let d : drop i piece ≡ [] = drop_of_length-le piece h in
        ends (fed_end (List ℕ) by_bytes (length out₀) (drop i piece) _ d) (λ l. fed_end Instance by_rules (length out₀) (drop i piece) _ d)

    pub feeds_full : i < length piece → length t.out.now - t.at < 64 → Feeds mem₀ carry₀ kept₀ piece out₀ (Ok (record { used = i; wrote = t.at; kept = line })) mem carry t.out.now
    feeds_full h room =
        let d : drop i piece ≡ get_or piece i 0 ∷ drop (suc i) piece = drop-cons piece i 0 h in
        let z : ltb (length out₀ - length v.text) 64 ≡ true =
        let n : length out₀ - length v.text < 64 = omega (arith, v.place, v.long) in
        lt-ltb (length out₀ - length v.text) 64 n in
        ends (fed_full (List ℕ) by_bytes (length out₀) _ _ (drop i piece) (here (List ℕ) mem carry line i v.text) d z) (λ l. fed_full Instance by_rules (length out₀) _ _ (drop i piece) (here Instance (view mem) carry line i v.text) d z)

  so_far_at : {mem carry carry_here : List ℕ} {t : Text} {line line_here i i_here : ℕ} → carry_here ≡ carry → line_here ≡ line → i_here ≡ i
      → SoFar mem₀ carry₀ kept₀ piece out₀ mem carry t line i → SoFar mem₀ carry₀ kept₀ piece out₀ mem carry_here t line_here i_here
  so_far_at e f g v = rw (e, f, g) v

  -- bytes with no line end among them
  module _ (mem : List ℕ) (t : Text) (room : 64 ≤ length t.out.now - t.at) where
    pub so_far_joined : (n : ℕ) (carry : List ℕ) (line i : ℕ) → SoFar mem₀ carry₀ kept₀ piece out₀ mem carry t line i → i + n ≤ part_end 10 piece i
        → SoFar mem₀ carry₀ kept₀ piece out₀ mem (joined_carry carry line (part piece i n)) t (joined_kept line (part piece i n)) (i + n)
    so_far_joined zero carry line i v h = so_far_at (carry_none carry line) (kept_none carry line v.most) (add-zero i) v
    so_far_joined (suc n) carry line i v h =
        let b : ℕ = get_or piece i 0 in
        let w : i < length piece = omega (arith, end_in 10 piece i refl v.inside, h) in
        let no : b ≡ 10 → ⊥ = λ e. omega (arith, end_here 10 piece i w e, h) in
        let d : part piece i (suc n) ≡ b ∷ part piece (i + 1) n = ap (take (suc n)) (byte_here piece i w) in
        let m : SoFar mem₀ carry₀ kept₀ piece out₀ mem (byte_carry carry line b) t (byte_kept line b) (i + 1) =
        so_far_more mem carry t line i v w room b refl t mem _ _ (took_join mem carry line t b no) in
        so_far_at (ap (joined_carry carry line) d ∙ carry_more carry line b no _) (ap (joined_kept line) d ∙ kept_more carry line b no _) (omega arith)
        (so_far_joined n (byte_carry carry line b) (byte_kept line b) (i + 1) m (omega (arith, end_more 10 piece i w no, h)))

  -- the bytes up to where the line ends, or the piece
  module _ (mem carry : List ℕ) (t : Text) (line i : ℕ) (v : SoFar mem₀ carry₀ kept₀ piece out₀ mem carry t line i) (room : 64 ≤ length t.out.now - t.at) (end : ℕ) (e : end ≡ part_end 10 piece i)
      (carried : List ℕ) (many : ℕ) (f : Joined carry line (between piece i end) carried many) where
    pub joins : SoFar mem₀ carry₀ kept₀ piece out₀ mem carried t many end
    joins =
        let n : i + (end - i) ≡ end = omega (arith, end_in 10 piece i e v.inside) in
        so_far_at f.begun f.keeps_many (sym n) (so_far_joined mem t room (end - i) carry line i v (omega (arith, n, e)))

  pub refuses : accepts carry₀ kept₀ ≡ false → Feeds mem₀ carry₀ kept₀ piece out₀ (Err Small) mem₀ carry₀ out₀
  unfolding goes start viewed
  refuses a = record {
    answer = rw a;
    bytes = rw a;
    begun = rw a;
    text = rw a;
    within = rw a (omega arith);
    stands = λ l. rw a;
    keeps = λ l. l;
  }

-- where the carry and the output lie
pub feeds_moved : {mem carry : List ℕ} {kept : ℕ} {piece out : List ℕ} {r : Result Fed VfsError} {after carried left carried_here left_here : List ℕ} → carried_here ≡ carried → left_here ≡ left
    → Feeds mem carry kept piece out r after carried left → Feeds mem carry kept piece out r after carried_here left_here
feeds_moved e f h = rw (e, f) h

-- ---- the end of the input

module _ (mem carry : List ℕ) (kept : ℕ) (out : List ℕ) where
  not_done : end_accepts carry kept (length out) ≡ false → Finishes mem carry kept out (Err Small) mem out
  not_done e = record {
    answer = rw e;
    bytes = rw e;
    text = rw e;
    within = λ t. absurd (true≢false (sym t ∙ e));
    stands = λ l. rw e;
    keeps = λ l. l;
  }

  pub not_accepted : accepts carry kept ≡ false → Finishes mem carry kept out (Err Small) mem out
  unfolding end_accepts
  not_accepted e = not_done (rw e)

  pub not_room : 8192 ≤ length carry → kept ≤ 8193 → length out < 64 → Finishes mem carry kept out (Err Small) mem out
  unfolding end_accepts
  not_room h k r = not_done (rw (accepts_true carry kept h k, lt-leb 64 (length out) r))

  module _ (h : 8192 ≤ length carry) (k : kept ≤ 8193) (r : 64 ≤ length out) where
    on : end_accepts carry kept (length out) ≡ true
    unfolding end_accepts
    on = rw (accepts_true carry kept h k, le-leb 64 (length out) r)

    pub done_none : kept ≡ 0 → Finishes mem carry kept out (Ok 0) mem out
    unfolding last_text last_next
    done_none z =
        let e : eqb kept 0 ≡ true = eq-eqb kept 0 z in
        record {
          answer = rw (on, e);
          bytes = rw (on, e);
          text = rw (on, e);
          within = λ t. rw e (omega arith);
          stands = λ l. rw (on, e);
          keeps = λ l. l;
        }

    pub done_line : (kept ≡ 0 → ⊥) → (was now : Text) → was.at ≡ 0 → was.out.now ≡ out → (after : List ℕ) → Ended mem carry kept was now after → Finishes mem carry kept out (Ok now.at) after now.out.now
    unfolding last_text last_next
    done_line z was now p o after f =
        let e : eqb kept 0 ≡ false = ne_eqb kept 0 z in
        let n : now.at ≡ length (end_text (List ℕ) by_bytes mem carry kept) = omega (arith, f.text.wrote.end) in
        record {
          answer = rw (on, e, n);
          bytes = rw (on, e) f.bytes;
          text = rw (on, e) (f.text.wrote.bytes ∙ (λ j. write (o j) (p j) (end_text (List ℕ) by_bytes mem carry kept)));
          within = λ t. rw e (omega (arith, f.text.wrote.within, n));
          stands = λ l. rw (on, e) (f.stands l);
          keeps = f.keeps;
        }

-- where the output lies
pub finishes_moved : {mem carry : List ℕ} {kept : ℕ} {out : List ℕ} {r : Result ℕ VfsError} {after left left_here : List ℕ} → left_here ≡ left → Finishes mem carry kept out r after left
    → Finishes mem carry kept out r after left_here
finishes_moved e h = rw e h
