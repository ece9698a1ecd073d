-- Where the feeds of a read, and the turns of a run, have led so far: the laws of `feed_all`, `end`, `turn` and `run`. Assumes nothing.
use Prim.Native.Nat.{ℕ, ◌+◌, ◌-◌, ◌≤◌, ◌<◌}
use native.Mathlib.Omega.{arith}
use mathlib.Core.Path.{◌≡◌, refl, sym, ap, ◌∙◌}
use mathlib.Core.Bool.{Bool, true, false, not, true≢false}
use mathlib.Core.Logic.{inl, inr}
use mathlib.Core.List.{List, [], ◌∷◌, ◌++◌}
use lib.ListN.{length, take, drop, length-drop, drop_of_length-le}
use lib.Seq.{drop-drop, take_all}
use lib.Dec.{leb}
use borrow.Author.Tests.{le-leb, leb-true}
use Rattle.std.specs.Prelude.{Result, Ok, Err, is_ok}
use Rattle.rules.specs.declared.codes.VfsError.{VfsError}
use Rattle.session_script.specs.Step.{by_bytes}
use Rattle.session_script.specs.Feed.{accepts, end_accepts, last_text, Feeds, Finishes}
use Rattle.session_script.specs.Runs.{used_in, wrote_in, kept_in, Feed, Through, Onward, Loop}
use Rattle.session_script.specs.declared.Fed.{Fed}
use Rattle.session_script.proofs.Carry.{accepts_true, accepts_wide}
use Rattle.session_script.proofs.Onward.{onward}
use Rattle.session_script.proofs.Loops.{through_none, through_more, through_accepted}
use Rattle.session.specs.Feeding.{FedAll, InputEnds, Brought, Over, Turned, Turn, Turns, Ran, LoopOf, EveryProgramRun}

-- the invariant: the feeds so far have led to here, and the next one is accepted
pub record SoFar (room : ℕ) (mem₀ carry₀ : List ℕ) (kept : ℕ) (piece mem carry : List ℕ) (line : ℕ) (rest : List ℕ) : Type 0 where
  pub feeds : List Feed
  pub through : Through room piece mem₀ carry₀ kept feeds rest mem carry line
  pub on : accepts carry line ≡ true

-- what a feed leaves to say
pub record Moves (room : ℕ) (mem₀ carry₀ : List ℕ) (kept : ℕ) (piece mem carry rest : List ℕ) (f : Fed) : Type 0 where
  pub most : f.used ≤ length rest
  pub least : 1 ≤ f.used
  pub fits : f.wrote ≤ room
  pub few : f.kept ≤ 8193
  pub so_far : SoFar room mem₀ carry₀ kept piece mem carry f.kept (drop f.used rest)

-- what is accepted has no more than says that a line is over the limit
few : (carry : List ℕ) (kept : ℕ) → accepts carry kept ≡ true → (t : Bool) → leb kept 8193 ≡ t → kept ≤ 8193
unfolding accepts
few carry kept a true e = leb-true kept 8193 e
few carry kept a false e = absurd (true≢false (sym a ∙ rw (le-leb 8192 (length carry) (accepts_wide carry kept a), e)))

-- a feed that used a byte was not refused
used_ok : (r : Result Fed VfsError) → 1 ≤ used_in r → is_ok r ≡ true
unfolding used_in
used_ok (Ok x) l = refl
used_ok (Err e) l = absurd (let z : ⊥ = omega (arith, l) in z)

module _ (mem₀ carry₀ : List ℕ) (kept : ℕ) (piece : List ℕ) (room : ℕ) where
  pub so_far_start : 8192 ≤ length carry₀ → kept ≤ 8193 → SoFar room mem₀ carry₀ kept piece mem₀ carry₀ kept piece
  so_far_start w k = record { feeds = []; through = through_none room piece mem₀ carry₀ kept; on = accepts_true carry₀ kept w k }

  module _ (mem carry : List ℕ) (line : ℕ) (rest : List ℕ) (v : SoFar room mem₀ carry₀ kept piece mem carry line rest) where
    -- all of the read is fed
    pub fed_all : length rest ≡ 0 → FedAll room mem₀ carry₀ kept piece true mem carry line
    fed_all h = record { feeds = v.feeds; rest = rest; through = v.through; whole = λ e. none rest h }
      where
        none : (xs : List ℕ) → length xs ≡ 0 → xs ≡ []
        none [] z = refl
        none (x ∷ xs) z = absurd (let y : ⊥ = omega arith in y)

    -- a write has failed
    pub fed_part : FedAll room mem₀ carry₀ kept piece false mem carry line
    fed_part = record { feeds = v.feeds; rest = rest; through = v.through; whole = λ e. absurd (true≢false (sym e)) }

    module _ (out : List ℕ) (r : Result Fed VfsError) (after carried left : List ℕ) (f : Feeds mem carry line rest out r after carried left) (o : length out ≡ room) (wide : 64 ≤ room) (h : length rest ≡ 0 → ⊥) where
      onward_here : Onward carry line rest out r carried
      onward_here = onward mem carry line rest out r after carried left f

      least : 1 ≤ used_in r
      least = onward_here.least v.on (omega arith) (omega arith)

      -- what is accepted is not refused
      pub fed_ok : is_ok r ≡ true
      fed_ok = used_ok r least

      -- a feed moves on within the read, and the output has what it wrote
      pub moves : (x : Fed) → r ≡ Ok x → Moves room mem₀ carry₀ kept piece after carried rest x
      unfolding used_in wrote_in kept_in
      moves x g =
          let s : Feed = record { piece = rest; more = []; out = out; answer = r; after = after; carried = carried; left = left } in
          let used : used_in r ≡ x.used = ap used_in g in
          let wrote : wrote_in r ≡ x.wrote = ap wrote_in g in
          let last : kept_in line r ≡ x.kept = ap (kept_in line) g in
          let again : accepts carried x.kept ≡ true = rw last at (onward_here.again v.on) in
          record {
            most = omega (arith, onward_here.most, used);
            least = omega (arith, least, used);
            fits = omega (arith, onward_here.fits, wrote);
            few = few carried x.kept again _ refl;
            so_far = record {
              feeds = v.feeds ++ (s ∷ []);
              through = rw (used, last) at (through_more room v.feeds piece mem₀ carry₀ kept rest mem carry line v.through s refl o f);
              on = again;
            };
          }

-- ---- a turn

-- nothing was read
pub brought_none : (room : ℕ) (mem carry : List ℕ) (kept : ℕ) (input : List ℕ) (on : Bool) → Brought room mem carry kept input on mem carry kept
brought_none room mem carry kept input on = record { n = 0; fed = record { feeds = []; rest = []; through = through_none room [] mem carry kept; whole = λ e. refl } }

-- ---- a run

module _ (room : ℕ) where
  pub turns_none : (mem carry : List ℕ) (kept : ℕ) → Turns room mem carry kept [] mem carry kept
  unfolding Turns
  turns_none mem carry kept = (refl, (refl, refl))

  -- one turn more
  pub turns_more : (ts : List Turn) (mem carry : List ℕ) (kept : ℕ) (after carried : List ℕ) (last : ℕ) → Turns room mem carry kept ts after carried last → (t : Turn)
      → Turned room after carried last t.input t.out t.on t.after t.carried t.kept t.left → t.on ≡ true
      → Turns room mem carry kept (ts ++ (t ∷ [])) t.after t.carried t.kept
  unfolding Turns
  turns_more [] mem carry kept after carried last (m, (c, k)) t f o = (rw (← m, ← c, ← k) f, (o, (refl, (refl, refl))))
  turns_more (x ∷ ts) mem carry kept after carried last (g, (n, r)) t f o = (g, (n, turns_more ts _ _ _ after carried last r t f o))

-- the invariant: the turns so far have led to here
pub record Running (room : ℕ) (mem₀ carry₀ : List ℕ) (start : ℕ) (mem carry : List ℕ) (kept : ℕ) : Type 0 where
  pub turns : List Turn
  pub chain : Turns room mem₀ carry₀ start turns mem carry kept

module _ (room : ℕ) (mem₀ carry₀ : List ℕ) (start : ℕ) where
  pub running_start : Running room mem₀ carry₀ start mem₀ carry₀ start
  running_start = record { turns = []; chain = turns_none room mem₀ carry₀ start }

  module _ (mem carry : List ℕ) (kept : ℕ) (v : Running room mem₀ carry₀ start mem carry kept) where
    -- the number of turns is used up
    pub ran_out : Ran room mem₀ carry₀ start mem carry
    ran_out = record { turns = v.turns; bytes = mem; begun = carry; kept = kept; chain = v.chain; last = inr (refl, refl) }

    module _ (input out : List ℕ) (on : Bool) (after carried : List ℕ) (many : ℕ) (left : List ℕ) (f : Turned room mem carry kept input out on after carried many left) where
      abbrev T : Turn
      T = record { input = input; out = out; on = on; after = after; carried = carried; kept = many; left = left }

      pub running_more : on ≡ true → Running room mem₀ carry₀ start after carried many
      running_more o = record { turns = v.turns ++ (T ∷ []); chain = turns_more room v.turns mem₀ carry₀ start mem carry kept v.chain T f o }

      -- the last turn
      pub ran : on ≡ false → Ran room mem₀ carry₀ start after carried
      ran o = record { turns = v.turns; bytes = mem; begun = carry; kept = kept; chain = v.chain; last = inl (T, (f, o)) }

-- ---- the end of the input

module _ (mem carry : List ℕ) (kept : ℕ) (out : List ℕ) (w : 8192 ≤ length carry) (k : kept ≤ 8193) (wide : 64 ≤ length out) where
  end_on : end_accepts carry kept (length out) ≡ true
  unfolding end_accepts
  end_on = rw (accepts_true carry kept w k, le-leb 64 (length out) wide)

  module _ (r : Result ℕ VfsError) (after left : List ℕ) (f : Finishes mem carry kept out r after left) where
    finished : r ≡ Ok (length (last_text (List ℕ) by_bytes mem carry kept))
    finished = f.answer ∙ rw end_on

    pub end_ok : is_ok r ≡ true
    end_ok = ap is_ok finished

    pub end_most : (w : ℕ) → r ≡ Ok w → w ≤ length out
    end_most w g =
        let d : ◌≡◌ {A = Result ℕ VfsError} (Ok w) (Ok (length (last_text (List ℕ) by_bytes mem carry kept))) = sym g ∙ finished in
        let e : w ≡ length (last_text (List ℕ) by_bytes mem carry kept) = cc in
        omega (arith, e, f.within end_on)

    pub ends : (w : ℕ) → r ≡ Ok w → InputEnds mem carry kept out after left
    ends w g = record { wrote = w; finishes = rw g at f }

-- ---- a run that has come to the end of its input

module _ (room : ℕ) (out : List ℕ) (on : Bool) (after carried left : List ℕ) (end : ℕ) where
  looped : (ts : List Turn) (mem carry : List ℕ) (kept : ℕ) (bytes begun : List ℕ) (last : ℕ) → Turns room mem carry kept ts bytes begun last → Over bytes begun last out on after carried end left
      → LoopOf room mem carry kept after
  unfolding Turns Loop
  looped [] mem carry kept bytes begun last (m, (c, k)) o =
      record {
        reads = [];
        finish = record { out = out; wrote = o.ends.wrote; after = after; left = left };
        loop = rw (m, c, k) at o.ends.finishes;
        end = refl;
      }
  looped (t ∷ ts) mem carry kept bytes begun last (inl b, (g, ch)) o =
      let l : LoopOf room t.after t.carried t.kept after = looped ts t.after t.carried t.kept bytes begun last ch o in
      record {
        reads = record { piece = take b.n t.input; feeds = b.fed.feeds; after = t.after; carried = t.carried; kept = t.kept } ∷ l.reads;
        finish = l.finish;
        loop = (rw (b.fed.whole g) at b.fed.through, l.loop);
        end = l.end;
      }
  looped (t ∷ ts) mem carry kept bytes begun last (inr v, (g, ch)) o = absurd (true≢false (sym g ∙ v.off))

pub every_run : EveryProgramRun
every_run room out on after carried left ts mem carry kept bytes begun last end t o = looped room out on after carried left end ts mem carry kept bytes begun last t o
