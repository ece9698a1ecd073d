-- Laws of the sum of the tables: runs one behind the other, and each piece by the sums of its parts. Assumes nothing.
use Prim.Native.Nat.{ℕ, zero, suc, ◌+◌, ◌-◌, ◌*◌, ◌≤◌, ◌<◌, min}
use native.Mathlib.Omega.{arith}
use mathlib.Core.Path.{◌≡◌, refl, sym, ap, ◌∙◌}
use mathlib.Core.Bool.{Bool, true, false}
use mathlib.Core.List.{List, ◌++◌}
use lib.Dec.{leb}
use lib.ListN.{length, get_or, drop, length-drop, drop_of_length-le}
use lib.Seq.{take-nil}
use borrow.Author.Tests.{le-leb, lt-leb, leb-true, leb-false, eq-eqb, ne_eqb}
use Rattle.std.specs.List.{fold, range_with_len}
use Rattle.std.proofs.lemmas.List.{take_min}
use Rattle.std.proofs.lemmas.List.Sums.{fold-append}
use Rattle.path.specs.Steps.{part}
use Rattle.test_words.specs.Adler.{summed, adler}
use Rattle.test_view_sum.specs.Viewed.{flag_of, optional, mount_bytes, slot_bytes, name_bytes, row_bytes, viewed_pieces, table_bytes}

-- ---- a run of bytes

module _ (s : List ℕ) (at n : ℕ) where
  run_by : (t : Bool) → leb at (length s) ≡ t → (a k : ℕ) → a ≡ min at (length s) → k ≡ min n (length s - a) → part s a k ≡ part s at n
  run_by true h a k e f =
      let l : at ≤ length s = leb-true at (length s) h in
      let g : a ≡ at = omega arith in
      let m : k ≡ min n (length (drop at s)) = omega (arith, length-drop at s) in
      rw (g, m) (take_min n (drop at s))
  run_by false h a k e f =
      let l : length s < at = leb-false at (length s) h in
      let g : length s ≤ a = omega arith in
      let m : length s ≤ at = omega arith in
      rw (drop_of_length-le s g, drop_of_length-le s m, take-nil k, take-nil n)

  pub run_is : (a k sum r : ℕ) → a ≡ min at (length s) → k ≡ min n (length s - a) → r ≡ adler sum (part s a (a + k - a)) → r ≡ adler sum (part s at n)
  run_is a k sum r e f h =
      let g : a + k - a ≡ k = omega arith in
      h ∙ ap (λ (j : ℕ). adler sum (part s a j)) g ∙ ap (adler sum) (run_by _ refl a k e f)

-- ---- one behind the other

adler_append : (sum : ℕ) (a b : List ℕ) → adler (adler sum a) b ≡ adler sum (a ++ b)
unfolding adler
adler_append sum a b = sym (fold-append summed sum a b)

more : (sum q r : ℕ) (a b : List ℕ) → q ≡ adler sum a → r ≡ adler q b → r ≡ adler sum (a ++ b)
more sum q r a b e f = f ∙ ap (λ (x : ℕ). adler x b) e ∙ adler_append sum a b

module _ (b sum a : ℕ) (s : List ℕ) (e : a ≡ adler sum (flag_of b)) where
  none : b ≡ 0 → a ≡ adler sum (optional b s)
  unfolding optional
  none h = e ∙ rw (eq-eqb b 0 h)

  some : (r : ℕ) → (b ≡ 0 → ⊥) → r ≡ adler a s → r ≡ adler sum (optional b s)
  unfolding optional
  some r h f = more sum a r (flag_of b) s e f ∙ rw (ne_eqb b 0 h)

module _ (s : List ℕ) (sum a : ℕ) where
  module _ (index cell uid gid mode : ℕ) (e : a ≡ adler sum (flag_of index)) where
    pub mount_none : index ≡ 0 → a ≡ adler sum (mount_bytes s index cell uid gid mode)
    unfolding mount_bytes
    mount_none h = none index sum a _ e h

    pub mount_some : (b c d r : ℕ) → (index ≡ 0 → ⊥) → b ≡ adler a (part s cell 8) → c ≡ adler b (part s uid 4) → d ≡ adler c (part s gid 4) → r ≡ adler d (part s mode 4)
        → r ≡ adler sum (mount_bytes s index cell uid gid mode)
    unfolding mount_bytes
    mount_some b c d r h f g i j = some index sum a _ e r h (more a d r _ _ (more a c d _ _ (more a b c _ _ f g) i) j)

  module _ (k held : ℕ) (o : held ≡ get_or s (256 + k) 0) (e : a ≡ adler sum (flag_of held)) where
    pub slot_none : held ≡ 0 → a ≡ adler sum (slot_bytes s k)
    unfolding slot_bytes
    slot_none h = rw (← o) (none held sum a _ e h)

    pub slot_some : (r : ℕ) → (held ≡ 0 → ⊥) → r ≡ adler a (part s (512 + 4 * k) 4) → r ≡ adler sum (slot_bytes s k)
    unfolding slot_bytes
    slot_some r h f = rw (← o) (some held sum a _ e r h f)

  module _ (len cell last front : ℕ) (e : a ≡ adler sum (part s cell 1)) where
    pub name_short : (r : ℕ) → len ≤ 7 → r ≡ adler a (part s last len) → r ≡ adler sum (name_bytes s len cell last front)
    unfolding name_bytes
    name_short r h f = more sum a r _ _ e f ∙ rw (le-leb len 7 h)

    pub name_long : (b r : ℕ) → 7 < len → b ≡ adler a (part s front (len - 7)) → r ≡ adler b (part s last 7) → r ≡ adler sum (name_bytes s len cell last front)
    unfolding name_bytes
    name_long b r h f g = more sum a r _ _ e (more a b r _ _ f g) ∙ rw (lt-leb len 7 h)

-- ---- pieces

pub pieces_fold : (f : ℕ → List ℕ) (sum n k : ℕ) → fold (λ x i. adler x (f i)) sum (range_with_len k n) ≡ adler sum (viewed_pieces f n k)
unfolding viewed_pieces
pieces_fold f sum zero k = unfold adler in refl
pieces_fold f sum (suc n) k = pieces_fold f (adler sum (f k)) n (k + 1) ∙ adler_append sum (f k) (viewed_pieces f n (k + 1))

-- ---- a row, and all

pub row_is : (s : List ℕ) (n i sum a b index c len r : ℕ)
    → a ≡ adler sum (part s (8192 + 8 * i) 7) → b ≡ adler a (part s (8192 + 8 * n + 8 * i) 7)
    → index ≡ get_or s (8192 + 16 * n + 8 * i + 7) 0
    → c ≡ adler b (mount_bytes s index (8192 + 16 * n + 8 * i) (8192 + 32 * n + 4 * i) (8192 + 36 * n + 4 * i) (8192 + 40 * n + 4 * i))
    → len ≡ get_or s (8192 + 24 * n + 8 * i) 0
    → r ≡ adler c (name_bytes s len (8192 + 24 * n + 8 * i) (8192 + 24 * n + 8 * i + 1) (8192 + 44 * n + 248 * i))
    → r ≡ adler sum (row_bytes s n i)
unfolding row_bytes
row_is s n i sum a b index c len r ea eb ei ec el er =
    more sum c r _ _
    (more sum b c _ _ (more sum a b _ _ ea eb)
    (ec ∙ ap (λ (z : ℕ). adler b (mount_bytes s z (8192 + 16 * n + 8 * i) (8192 + 32 * n + 4 * i) (8192 + 36 * n + 4 * i) (8192 + 40 * n + 4 * i))) ei))
    (er ∙ ap (λ (z : ℕ). adler c (name_bytes s z (8192 + 24 * n + 8 * i) (8192 + 24 * n + 8 * i + 1) (8192 + 44 * n + 248 * i))) el)

pub table_is : (s : List ℕ) (a f b g c index d e size count r : ℕ)
    → a ≡ adler 1 (part s 8 74) → f ≡ get_or s 82 0 → b ≡ adler a (flag_of f) → g ≡ get_or s 83 0 → c ≡ adler b (flag_of g)
    → index ≡ get_or s 95 0 → d ≡ adler c (mount_bytes s index 88 96 100 104) → e ≡ adler d (viewed_pieces (slot_bytes s) 256 0)
    → size ≡ get_or s 8 0 + 256 * get_or s 9 0 → count ≡ get_or s 16 0 + 256 * get_or s 17 0
    → r ≡ adler e (viewed_pieces (row_bytes s size) count 0)
    → r ≡ adler 1 (table_bytes s)
unfolding table_bytes
table_is s a f b g c index d e size count r ea ef eb eg ec ei ed ee es en er =
    more 1 e r _ _
    (more 1 d e _ _
    (more 1 c d _ _
    (more 1 b c _ _ (more 1 a b _ _ ea (eb ∙ ap (λ (z : ℕ). adler a (flag_of z)) ef)) (ec ∙ ap (λ (z : ℕ). adler b (flag_of z)) eg))
    (ed ∙ ap (λ (z : ℕ). adler c (mount_bytes s z 88 96 100 104)) ei))
    ee)
    (er ∙ rw (es, en))
