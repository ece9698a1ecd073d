-- Laws of bytes set at any place: what would stand past the end is not written. Assumes nothing.
use Prim.Native.Nat.{ℕ, zero, suc, ◌+◌, ◌-◌, ◌/◌, ◌%◌, ◌≤◌, ◌<◌, min}
use native.Mathlib.Nat.{sub-zero}
use native.Mathlib.Omega.{arith}
use mathlib.Core.Path.{◌≡◌, refl, sym, ap, ◌∙◌}
use mathlib.Core.Bool.{Bool, true, false}
use mathlib.Core.List.{List, [], ◌∷◌, ◌++◌, append-nil}
use lib.Dec.{leb}
use lib.ListN.{length, get_or, take, drop, set, replicate, length-set, length-take, length-drop, drop_of_length-le, length-replicate, replicate-append-replicate, take-append-drop, get_or-eq_default}
use lib.Seq.{set_out, take_all, take-take, take_at}
use native.Mathlib.Numerals.{add-one}
use borrow.Rule.Slice.PartMut.{put_mid}
use borrow.Author.Tests.{le-leb, lt-leb, leb-true, leb-false}
use Rattle.rules.proofs.Fields.{read_slice}
use Rattle.le.specs.Mem.{read, write, put, bytes_of}
use Rattle.le.proofs.Lens.{length-write, write_append}
use Rattle.le.proofs.Writes.{write_over, write_part}
use Rattle.test_steps.specs.Drawn.{next, drawn}
use Rattle.test_steps.specs.Whole.{put_whole}

-- ---- past the end

write_past : (mem : List ℕ) (at : ℕ) (bs : List ℕ) → length mem ≤ at → write mem at bs ≡ mem
write_past mem at [] h = refl
write_past mem at (b ∷ bs) h = write_past (set mem at b) (suc at) bs (omega (arith, length-set mem at b)) ∙ set_out mem at b h

write_cut : (mem : List ℕ) (at : ℕ) (a b : List ℕ) → length mem ≤ at + length a → write mem at (a ++ b) ≡ write mem at a
write_cut mem at a b h = write_append mem at a b ∙ write_past (write mem at a) (at + length a) b (omega (arith, length-write mem at a))

-- ---- from the place or the end on, as many as there are

module _ (mem bs : List ℕ) (at from k : ℕ) (e : from ≡ min at (length mem)) (f : k ≡ min (length bs) (length mem - from)) where
  set_by : (t u : Bool) → leb at (length mem) ≡ t → leb (length bs) k ≡ u → write mem from (take k bs) ≡ write mem at bs
  set_by true true h g =
      let p : from ≡ at = omega (arith, leb-true at (length mem) h) in
      rw (p, take_all k bs (leb-true (length bs) k g))
  set_by true false h g =
      let p : from ≡ at = omega (arith, leb-true at (length mem) h) in
      let q : length mem ≤ at + length (take k bs) = omega (arith, leb-true at (length mem) h, leb-false (length bs) k g, length-take k bs) in
      rw p (sym (write_cut mem at (take k bs) (drop k bs) q) ∙ rw (take-append-drop k bs))
  set_by false u h g =
      let p : length mem < at = leb-false at (length mem) h in
      let z : k ≡ 0 = omega arith in
      rw z (sym (write_past mem at bs (omega arith)))

  set_there : (short : List ℕ) → short ≡ take k bs → write mem from short ≡ write mem at bs
  set_there short d = rw d (set_by _ _ refl refl)

-- ---- one byte again and again, bytes of the generator, bytes of another list

filled_front : (k n b : ℕ) → k ≤ n → replicate k b ≡ take k (replicate n b)
filled_front k n b h =
    let e : n ≡ k + (n - k) = omega arith in
    sym (rw (e, ← replicate-append-replicate k (n - k) b) (take_at (replicate k b) (replicate (n - k) b) k (length-replicate k b)))

drawn_front : (k n x : ℕ) → k ≤ n → drawn k x ≡ take k (drawn n x)
unfolding drawn
drawn_front zero n x h = refl
drawn_front (suc k) zero x h = absurd (omega arith)
drawn_front (suc k) (suc n) x h = ap (λ (l : List ℕ). next x / 65536 % 256 ∷ l) (drawn_front k n (next x) (omega arith))

length_drawn : (n x : ℕ) → length (drawn n x) ≡ n
unfolding drawn
length_drawn zero x = refl
length_drawn (suc n) x = ap suc (length_drawn n (next x))

module _ (mem : List ℕ) (at from n k : ℕ) (e : from ≡ min at (length mem)) (f : k ≡ min n (length mem - from)) where
  pub fill_is : (b : ℕ) (d : List ℕ) → d ≡ write mem from (replicate k b) → d ≡ write mem at (replicate n b)
  fill_is b d g = g ∙ set_there mem (replicate n b) at from k e (rw (length-replicate n b) f) (replicate k b) (filled_front k n b (omega arith))

  draw_is : (x : ℕ) → write mem from (drawn k x) ≡ write mem at (drawn n x)
  draw_is x = set_there mem (drawn n x) at from k e (rw (length_drawn n x) f) (drawn k x) (drawn_front k n x (omega arith))

pub copy_is : (mem src : List ℕ) (n m k : ℕ) (d : List ℕ) → m ≡ min n (length mem) → k ≡ min m (length src) → d ≡ write mem 0 (read src 0 k) → d ≡ write mem 0 (take n src)
copy_is mem src n m k d e f g =
    g ∙ set_there mem (take n src) 0 0 k (omega arith) (omega (arith, length-take n src)) (read src 0 k)
    (read_slice src 0 k (omega arith) ∙ sym (take-take k n src (omega arith)))

-- the part of s behind i of the k bytes drawn: with the rest of them, all will stand
abbrev pub Left : ℕ → ℕ → List ℕ → ℕ → ℕ → Type 0
Left k seed part x i = write part i (drawn (k - i) x) ≡ drawn k seed

write_whole : (d bs : List ℕ) → length bs ≡ length d → write d 0 bs ≡ bs
write_whole d bs e = write_over d bs (omega arith) ∙ rw (drop_of_length-le d {i = length bs} (omega arith), append-nil)

module _ (k seed : ℕ) where
  pub left_all : (part : List ℕ) → length part ≡ k → Left k seed part seed 0
  left_all part e = rw (sub-zero k) (write_whole part (drawn k seed) (length_drawn k seed ∙ sym e))

  module _ (part : List ℕ) (x i : ℕ) (l : Left k seed part x i) where
    pub left_more : (y b : ℕ) → i < k → y ≡ next x → b ≡ y / 65536 % 256 → Left k seed (set part i b) y (i + 1)
    unfolding drawn
    left_more y b h e f =
        let d : k - i ≡ suc (k - (i + 1)) = omega arith in
        ap (λ (j : ℕ). write (set part i b) j (drawn (k - (i + 1)) y)) (add-one i) ∙ rw (f, e) (sym (ap (λ (j : ℕ). write part i (drawn j x)) d) ∙ l)

    pub left_none : k ≤ i → part ≡ drawn k seed
    unfolding drawn
    left_none h = (let d : k - i ≡ 0 = omega arith in sym (ap (λ (j : ℕ). write part i (drawn j x)) d)) ∙ l

-- the part back in its place
pub scattered : (mem part : List ℕ) (at n seed from k : ℕ) → from ≡ min at (length mem) → k ≡ min n (length mem - from)
    → part ≡ drawn k seed → put_mid from (from + k - from) mem part ≡ write mem at (drawn n seed)
scattered mem part at n seed from k e f g =
    let j : from + k - from ≡ k = omega arith in
    let l : length (take k (drop from mem)) ≡ k = omega (arith, length-take k (drop from mem), length-drop from mem) in
    let w = write_whole (take k (drop from mem)) (drawn k seed) (length_drawn k seed ∙ sym l) in
    rw (j, g)
    (ap (put_mid from k mem) (sym w) ∙ write_part mem from k (drawn k seed) (omega arith) (omega (arith, length_drawn k seed)) ∙ draw_is mem at from n k e f seed)

-- ---- numbers

module _ (mem : List ℕ) (at x from : ℕ) (e : from ≡ min at (length mem)) where
  pub byte_is : (v : ℕ) (d : List ℕ) → from < length mem → v ≡ x % 256 → d ≡ put 1 mem from v → d ≡ put 1 mem at x
  unfolding put bytes_of
  byte_is v d h f g =
      let p : from ≡ at = omega arith in
      let q : v % 256 ≡ x % 256 = omega arith in
      g ∙ rw (p, q)

  pub byte_none : length mem ≤ from → mem ≡ put 1 mem at x
  unfolding put
  byte_none h = sym (write_past mem at (bytes_of 1 x) (omega arith))

  pub word_is : (k : ℕ) (d : List ℕ) → 0 < k → k ≤ length mem - from → d ≡ put k mem from x → d ≡ put_whole k mem at x
  unfolding put_whole
  word_is k d z h g =
      let p : from ≡ at = omega arith in
      let q : at + k ≤ length mem = omega arith in
      g ∙ rw (le-leb (at + k) (length mem) q, p)

  pub word_none : (k : ℕ) → length mem - from < k → mem ≡ put_whole k mem at x
  unfolding put_whole
  word_none k h =
      let q : length mem < at + k = omega arith in
      rw (lt-leb (at + k) (length mem) q)

byte_there : (mem : List ℕ) (at from : ℕ) (t : Bool) → leb at (length mem) ≡ t → from ≡ min at (length mem) → get_or mem from 0 ≡ get_or mem at 0
byte_there mem at from true h e =
    let p : from ≡ at = omega (arith, leb-true at (length mem) h) in
    rw p
byte_there mem at from false h e =
    let p : length mem ≤ from = omega (arith, leb-false at (length mem) h) in
    let q : length mem ≤ at = omega (arith, leb-false at (length mem) h) in
    get_or-eq_default mem 0 {n = from} p ∙ sym (get_or-eq_default mem 0 {n = at} q)

pub raise_is : (mem : List ℕ) (at x from b y : ℕ) (d : List ℕ) → from ≡ min at (length mem) → b ≡ get_or mem from 0 → y % 256 ≡ (b + x) % 256
    → d ≡ put 1 mem at y → d ≡ put 1 mem at (get_or mem at 0 + x)
unfolding put bytes_of
raise_is mem at x from b y d e f h g = g ∙ rw (h, f, byte_there mem at from _ refl e)
