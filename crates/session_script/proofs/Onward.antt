-- Every feed with room goes on, and the next one is accepted. Assumes nothing.
use Prim.Native.Nat.{ℕ, suc, ◌+◌, ◌-◌, ◌≤◌}
use native.Mathlib.Omega.{arith}
use mathlib.Core.Path.{◌≡◌, refl, ap}
use mathlib.Core.Bool.{Bool, true, false, cond}
use mathlib.Core.List.{List, [], ◌∷◌}
use lib.ListN.{length}
use lib.Dec.{ltb}
use borrow.Author.Tests.{le-ltb}
use Rattle.session_script.specs.Step.{Answers, by_bytes}
use Rattle.session_script.specs.Feed.{FeedGoing, start, feed_step, fed, accepts, goes}
use Rattle.session_script.specs.Runs.{used_in, EveryFeed}
use Rattle.session_script.proofs.Carry.{accepts_byte}
use Rattle.session_script.proofs.Runs.{used_by, wrote_by, kept_by}

module _ (S : Type 0) (a : Answers S) (room : ℕ) where
  step_used : (b : ℕ) (g : FeedGoing S) → (feed_step S a b g).used ≡ g.used + 1
  unfolding feed_step
  step_used b g = refl

  either : (t : Bool) (x y : FeedGoing S) (low high : ℕ) → (low ≤ x.used) × (x.used ≤ high) → (low ≤ y.used) × (y.used ≤ high) → (low ≤ (cond t x y).used) × ((cond t x y).used ≤ high)
  either true x y low high p q = p
  either false x y low high p q = q

  -- from what was used up to all of the bytes
  used_range : (bs : List ℕ) (g : FeedGoing S) → (g.used ≤ (fed S a room bs g).used) × ((fed S a room bs g).used ≤ g.used + length bs)
  unfolding fed
  used_range [] g = (omega arith, omega arith)
  used_range (b ∷ bs) g =
      let r : ((feed_step S a b g).used ≤ (fed S a room bs (feed_step S a b g)).used) × ((fed S a room bs (feed_step S a b g)).used ≤ (feed_step S a b g).used + length bs) =
      used_range bs (feed_step S a b g) in
      let n : (feed_step S a b g).used ≡ g.used + 1 = step_used b g in
      either (ltb (room - length g.text) 64) g (fed S a room bs (feed_step S a b g)) g.used (g.used + suc (length bs)) (omega arith, omega arith) (omega arith, omega arith)

  -- the first byte is used where there is room
  used_first : (bs : List ℕ) (g : FeedGoing S) → 1 ≤ length bs → g.text ≡ [] → 64 ≤ room → g.used + 1 ≤ (fed S a room bs g).used
  unfolding fed
  used_first [] g h e r = absurd (let z : ⊥ = omega arith in z)
  used_first (b ∷ bs) g h e r =
      let k : 64 ≤ room - length g.text = omega (arith, ap length e) in
      let m : (feed_step S a b g).used ≤ (fed S a room bs (feed_step S a b g)).used = (used_range bs (feed_step S a b g)).0 in
      let n : (feed_step S a b g).used ≡ g.used + 1 = step_used b g in
      rw (le-ltb (room - length g.text) 64 k) (omega arith)

module _ (S : Type 0) (a : Answers S) (room : ℕ) where
  either_accepted : (t : Bool) (x y : FeedGoing S) → accepts x.carry x.kept ≡ true → accepts y.carry y.kept ≡ true → accepts (cond t x y).carry (cond t x y).kept ≡ true
  either_accepted true x y p q = p
  either_accepted false x y p q = q

  -- what a byte leaves of what is accepted is accepted
  step_accepted : (b : ℕ) (g : FeedGoing S) → accepts g.carry g.kept ≡ true → accepts (feed_step S a b g).carry (feed_step S a b g).kept ≡ true
  unfolding feed_step
  step_accepted b g e = accepts_byte g.carry g.kept b e

  fed_accepted : (bs : List ℕ) (g : FeedGoing S) → accepts g.carry g.kept ≡ true → accepts (fed S a room bs g).carry (fed S a room bs g).kept ≡ true
  unfolding fed
  fed_accepted [] g e = e
  fed_accepted (b ∷ bs) g e =
      either_accepted (ltb (room - length g.text) 64) g (fed S a room bs (feed_step S a b g)) e (fed_accepted bs (feed_step S a b g) (step_accepted b g e))

module _ (mem carry : List ℕ) (kept : ℕ) (piece : List ℕ) (room : ℕ) where
  most_by : (t : Bool) → accepts carry kept ≡ t → (goes (List ℕ) by_bytes mem carry kept piece room).used ≤ length piece
  unfolding goes start
  most_by true e =
      let r : (fed (List ℕ) by_bytes room piece (start (List ℕ) mem carry kept)).used ≤ 0 + length piece = (used_range (List ℕ) by_bytes room piece (start (List ℕ) mem carry kept)).1 in
      rw e (omega arith)
  most_by false e = rw e (omega arith)

  least_by : accepts carry kept ≡ true → 1 ≤ length piece → 64 ≤ room → 1 ≤ (goes (List ℕ) by_bytes mem carry kept piece room).used
  unfolding goes start
  least_by e h r = rw e (used_first (List ℕ) by_bytes room piece (start (List ℕ) mem carry kept) h refl r)

  again_by : accepts carry kept ≡ true → accepts (goes (List ℕ) by_bytes mem carry kept piece room).carry (goes (List ℕ) by_bytes mem carry kept piece room).kept ≡ true
  unfolding goes start
  again_by e = rw e (fed_accepted (List ℕ) by_bytes room piece (start (List ℕ) mem carry kept) e)

-- the theorem
pub onward : EveryFeed
onward mem carry kept piece out r after carried left f =
    let u : used_in r ≡ (goes (List ℕ) by_bytes mem carry kept piece (length out)).used = used_by mem carry kept piece out r after carried left f _ refl in
    record {
      fits = omega (arith, wrote_by mem carry kept piece out r after carried left f _ refl, f.within);
      most = omega (arith, most_by mem carry kept piece (length out) _ refl);
      least = λ e h g. omega (arith, least_by mem carry kept piece (length out) e h g);
      again = λ e. rw (f.begun, kept_by mem carry kept piece out r after carried left f _ refl) (again_by mem carry kept piece (length out) e);
    }
