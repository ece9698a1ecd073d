-- The loop of the program: a piece fed until nothing is left of it, and all reads one after another. Assumes nothing.
use Prim.Native.Nat.{ℕ}
use mathlib.Core.Path.{◌≡◌, refl, sym, ap, ◌∙◌}
use mathlib.Core.Bool.{true}
use mathlib.Core.List.{List, [], ◌∷◌, ◌++◌}
use lib.ListN.{length, take, drop}
use Rattle.session_script.specs.Feed.{accepts, Feeds}
use Rattle.session_script.specs.Runs.{used_in, wrote_in, kept_in, Feed, Finish, FeedRun, written, WholeOf, Through, Read, Loop, input_of, feeds_of, EveryLoop}
use Rattle.session_script.proofs.Onward.{onward}
use Rattle.session_script.proofs.Runs.{every_cutting}

-- ---- one piece

module _ (room : ℕ) where
  -- nothing is fed yet
  pub through_none : (piece mem carry : List ℕ) (kept : ℕ) → Through room piece mem carry kept [] piece mem carry kept
  unfolding Through
  through_none piece mem carry kept = (refl, (refl, (refl, refl)))

  -- one feed more, of what is left
  pub through_more : (ss : List Feed) (piece mem carry : List ℕ) (kept : ℕ) (rest after carried : List ℕ) (last : ℕ) → Through room piece mem carry kept ss rest after carried last
      → (s : Feed) → s.piece ≡ rest → length s.out ≡ room → Feeds after carried last s.piece s.out s.answer s.after s.carried s.left
      → Through room piece mem carry kept (ss ++ (s ∷ [])) (drop (used_in s.answer) rest) s.after s.carried (kept_in last s.answer)
  unfolding Through
  through_more [] piece mem carry kept rest after carried last (p, (m, (c, k))) s e o f =
      (e ∙ p, (o, (rw (← m, ← c, ← k) f, (ap (drop (used_in s.answer)) (sym e), (refl, (refl, rw k))))))
  through_more (x ∷ ss) piece mem carry kept rest after carried last (p, (o, (g, t))) s e q f =
      (p, (o, (g, through_more ss _ _ _ _ rest after carried last t s e q f)))

  -- what is left of what is accepted is accepted
  pub through_accepted : (ss : List Feed) (piece mem carry : List ℕ) (kept : ℕ) (rest after carried : List ℕ) (last : ℕ) → Through room piece mem carry kept ss rest after carried last
      → accepts carry kept ≡ true → accepts carried last ≡ true
  unfolding Through
  through_accepted [] piece mem carry kept rest after carried last (p, (m, (c, k))) a = rw (c, k) a
  through_accepted (x ∷ ss) piece mem carry kept rest after carried last (p, (o, (g, t))) a =
      through_accepted ss _ _ _ _ rest after carried last t ((onward mem carry kept x.piece x.out x.answer x.after x.carried x.left g).again a)

-- ---- all reads

-- a feed with the input behind its piece
abbrev behind : List ℕ → Feed → Feed
behind more s = record { piece = s.piece; more = more; out = s.out; answer = s.answer; after = s.after; carried = s.carried; left = s.left }

abbrev all_behind : List ℕ → List Feed → List Feed
all_behind more [] = []
all_behind more (s ∷ ss) = behind more s ∷ all_behind more ss

module _ (room : ℕ) (f : Finish) where
  -- the feeds of a piece go before the feeds of the rest
  before : (ss : List Feed) (piece mem carry : List ℕ) (kept : ℕ) (after carried : List ℕ) (last : ℕ) (more : List ℕ) (ts : List Feed)
      → Through room piece mem carry kept ss [] after carried last → FeedRun more after carried last ts f → FeedRun (piece ++ more) mem carry kept (all_behind more ss ++ ts) f
  unfolding Through FeedRun
  before [] piece mem carry kept after carried last more ts (p, (m, (c, k))) r = rw (← p, ← m, ← c, ← k) r
  before (s ∷ ss) piece mem carry kept after carried last more ts (p, (o, (g, t))) r =
      (ap (λ (x : List ℕ). x ++ more) (sym p), (g, before ss _ _ _ _ after carried last more ts t r))

  -- and write the same
  same_text : (more : List ℕ) (ss ts us : List Feed) → written ts f ≡ written us f → written (all_behind more ss ++ ts) f ≡ written (ss ++ us) f
  unfolding written
  same_text more [] ts us e = e
  same_text more (s ∷ ss) ts us e = ap (λ (x : List ℕ). take (wrote_in s.answer) s.left ++ x) (same_text more ss ts us e)

  -- the loop is a run
  record Made (rs : List Read) (mem carry : List ℕ) (kept : ℕ) : Type 0 where
    feeds : List Feed
    run : FeedRun (input_of rs) mem carry kept feeds f
    text : written feeds f ≡ written (feeds_of rs) f

  made : (rs : List Read) (mem carry : List ℕ) (kept : ℕ) → Loop room mem carry kept rs f → Made rs mem carry kept
  unfolding Loop FeedRun input_of feeds_of
  made [] mem carry kept l = record { feeds = []; run = (refl, l); text = refl }
  made (r ∷ rs) mem carry kept (t, l) =
      let m : Made rs r.after r.carried r.kept = made rs r.after r.carried r.kept l in
      record {
        feeds = all_behind (input_of rs) r.feeds ++ m.feeds;
        run = before r.feeds r.piece mem carry kept r.after r.carried r.kept (input_of rs) m.feeds t m.run;
        text = same_text (input_of rs) r.feeds m.feeds (feeds_of rs) m.text;
      }

-- the theorem
pub every_loop : EveryLoop
every_loop room mem carry rs f l p =
    let m : Made room f rs mem carry 0 = made room f rs mem carry 0 p in
    let w : WholeOf (input_of rs) mem m.feeds f = every_cutting (input_of rs) mem carry m.feeds f l m.run in
    record { text = sym m.text ∙ w.text; stands = w.stands; keeps = w.keeps }
