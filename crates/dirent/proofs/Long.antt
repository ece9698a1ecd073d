-- A name that has 8 bytes or more, laid word by word: zeros, whole words, and the last eight bytes over them. Assumes nothing.
use mathlib.Core.Path.{◌≡◌, refl, sym, ap, ap₂, ◌∙◌}
use mathlib.Core.Logic.{inl, inr}
use mathlib.Core.List.{List, [], ◌∷◌, ◌++◌, append_assoc}
use Prim.Native.Nat.{ℕ, ◌+◌, ◌-◌, ◌*◌, ◌/◌, ◌%◌, ◌^◌, ◌≤◌, ◌<◌}
use native.Mathlib.Nat.{add-zero, zero-add}
use native.Mathlib.Omega.{arith}
use lib.ListN.{length, get_or, replicate, length-append, length-replicate}
use Rattle.rules.specs.Fields.{bytes_of, fields}
use Rattle.rules.specs.Listing.{padding, dirent_row, dirent}
use Rattle.rules.proofs.Fields.{length_read, length_bytes_of, bytes_back, get_fits, read_add, read_all}
use Rattle.le.specs.Mem.{read, get, write, put, Bytes}
use Rattle.le.proofs.Lens.{length-write, zeros, write_append, get_one, read_apart, read_part, read_within, read_same, read_filled}
use Rattle.dirent.specs.Lays.{Lays, name_field}
use Rattle.dirent.proofs.Records.{sized_in, sized_out}

-- ---- words copied: the first of n stands there, and i are done

abbrev pub Copied : List ℕ → ℕ → List ℕ → ℕ → ℕ → List ℕ → ℕ → Type 0
Copied mem at src from n d i = (1 ≤ i) × (i ≤ n) × (length d ≡ length mem) × (d ≡ write mem (at + 8) (read src (from + 8) (8 * i - 8)))

word : (src : List ℕ) → Bytes src → (d : List ℕ) (at from v : ℕ) → v ≡ get 8 src from → put 8 d at v ≡ write d at (read src from 8)
unfolding put
word src b d at from v e = ap (λ (x : ℕ). write d at (bytes_of 8 x)) e ∙ ap (write d at) (bytes_back 8 src from b)

-- a run, and one behind it
runs : (mem : List ℕ) (at : ℕ) (src : List ℕ) (from k j p q : ℕ) → p ≡ at + k → q ≡ from + k
    → write (write mem at (read src from k)) p (read src q j) ≡ write mem at (read src from (k + j))
runs mem at src from k j p q e f =
    let a : List ℕ = read src from k in
    sym
    (ap (write mem at) (read_add src from k j) ∙ write_append mem at a (read src (from + k) j)
    ∙ ap (λ (x : ℕ). write (write mem at a) (at + x) (read src (from + k) j)) (length_read src from k) ∙ ap₂ (λ (x y : ℕ). write (write mem at a) x (read src y j)) (sym e) (sym f))

module _ (mem : List ℕ) (at : ℕ) (src : List ℕ) (from n : ℕ) where
  pub copied_none : 1 ≤ n → Copied mem at src from n mem 1
  unfolding read
  copied_none h = (omega arith, h, refl, refl)

  pub copied_next : Bytes src → (d : List ℕ) (i : ℕ) → Copied mem at src from n d i → i < n → (v : ℕ) (f : List ℕ) → v ≡ get 8 src (from + 8 * i) → f ≡ put 8 d (at + 8 * i) v
      → Copied mem at src from n f (i + 1)
  copied_next b d i c h v f e q =
      let r : List ℕ = read src (from + 8 * i) 8 in
      let s : f ≡ write d (at + 8 * i) r = q ∙ word src b d (at + 8 * i) (from + 8 * i) v e in
      let m : 8 * i - 8 + 8 ≡ 8 * (i + 1) - 8 = omega arith in
      let x : at + 8 * i ≡ at + 8 + (8 * i - 8) = omega arith in
      let y : from + 8 * i ≡ from + 8 + (8 * i - 8) = omega arith in
      let t : f ≡ write mem (at + 8) (read src (from + 8) (8 * (i + 1) - 8)) =
      s ∙ ap (λ (z : List ℕ). write z (at + 8 * i) r) c.3 ∙ runs mem (at + 8) src (from + 8) (8 * i - 8) 8 (at + 8 * i) (from + 8 * i) x y
      ∙ ap (λ (k : ℕ). write mem (at + 8) (read src (from + 8) k)) m in
      (omega arith, omega arith, ap length s ∙ length-write d (at + 8 * i) r ∙ c.2, t)

  pub copied_all : Bytes src → (v : ℕ) (d : List ℕ) (i : ℕ) (f : List ℕ) → v ≡ get 8 src from → d ≡ put 8 mem at v → Copied d at src from n f i → n ≤ i
      → f ≡ write mem at (read src from (8 * n))
  copied_all b v d i f e q c h =
      let k : 8 + (8 * i - 8) ≡ 8 * n = omega arith in
      c.3 ∙ ap (λ (z : List ℕ). write z (at + 8) (read src (from + 8) (8 * i - 8))) (q ∙ word src b mem at from v e)
      ∙ runs mem at src from 8 (8 * i - 8) (at + 8) (from + 8) refl refl ∙ ap (λ (j : ℕ). write mem at (read src from j)) k

-- ---- two lists, run by run

join : (a b : List ℕ) (at x y p : ℕ) → p ≡ at + x → read a at x ≡ read b at x → read a p y ≡ read b p y → read a at (x + y) ≡ read b at (x + y)
join a b at x y p e u v =
    read_add a at x y ∙ ap₂ (λ (s t : List ℕ). s ++ t) u (ap (λ (q : ℕ). read a q y) (sym e) ∙ v ∙ ap (λ (q : ℕ). read b q y) e) ∙ sym (read_add b at x y)

whole : (a b : List ℕ) (n : ℕ) → length a ≡ n → length b ≡ n → read a 0 n ≡ read b 0 n → a ≡ b
whole a b n p q h = sym (read_all a) ∙ ap (read a 0) p ∙ h ∙ ap (read b 0) (sym q) ∙ read_all b

-- ---- writes over each other: eight zeros, a run r of which the first k bytes count, eight bytes t over its end; and the same without what is covered

module _ (m : List ℕ) (at z k pad rest : ℕ) (r t : List ℕ) (long : length m ≡ at + (k + (8 + (pad + rest)))) (few : pad ≤ 8) (low : at ≤ z) (high : z + 8 ≡ at + k + 8 + pad)
    (enough : k ≤ length r) (within : length r ≤ k + 8) (eight : length t ≡ 8) where
  abbrev a₁ : List ℕ
  a₁ = write m z (replicate 8 0)

  abbrev a₂ : List ℕ
  a₂ = write a₁ at r

  abbrev a₃ : List ℕ
  a₃ = write a₂ (at + k) t

  abbrev b₁ : List ℕ
  b₁ = write m at (read r 0 k)

  abbrev b₂ : List ℕ
  b₂ = write b₁ (at + k) t

  abbrev b₃ : List ℕ
  b₃ = write b₂ (at + k + 8) (replicate pad 0)

  l_a₁ : length a₁ ≡ length m
  l_a₁ = length-write m z (replicate 8 0)

  l_a₂ : length a₂ ≡ length m
  l_a₂ = length-write a₁ at r ∙ l_a₁

  l_b₁ : length b₁ ≡ length m
  l_b₁ = length-write m at (read r 0 k)

  l_b₂ : length b₂ ≡ length m
  l_b₂ = length-write b₁ (at + k) t ∙ l_b₁

  -- what lies apart from all of them
  below : (p w : ℕ) → p + w ≤ at → read a₃ p w ≡ read b₃ p w
  below p w h =
      read_apart a₂ (at + k) t 8 p w eight (inl (omega arith)) ∙ read_apart a₁ at r (length r) p w refl (inl (omega arith))
      ∙ read_apart m z (replicate 8 0) 8 p w (length-replicate {A = ℕ} 8 0) (inl (omega arith))
      ∙ sym
      (read_apart b₂ (at + k + 8) (replicate pad 0) pad p w (length-replicate pad 0) (inl (omega arith)) ∙ read_apart b₁ (at + k) t 8 p w eight (inl (omega arith))
      ∙ read_apart m at (read r 0 k) k p w (length_read r 0 k) (inl (omega arith)))

  above : (p w : ℕ) → at + k + 8 + pad ≤ p → read a₃ p w ≡ read b₃ p w
  above p w h =
      read_apart a₂ (at + k) t 8 p w eight (inr (omega arith)) ∙ read_apart a₁ at r (length r) p w refl (inr (omega arith))
      ∙ read_apart m z (replicate 8 0) 8 p w (length-replicate {A = ℕ} 8 0) (inr (omega arith))
      ∙ sym
      (read_apart b₂ (at + k + 8) (replicate pad 0) pad p w (length-replicate pad 0) (inr (omega arith)) ∙ read_apart b₁ (at + k) t 8 p w eight (inr (omega arith))
      ∙ read_apart m at (read r 0 k) k p w (length_read r 0 k) (inr (omega arith)))

  run : read a₃ at k ≡ read b₃ at k
  run =
      read_apart a₂ (at + k) t 8 at k eight (inl (omega arith))
      ∙ (rw add-zero at (read_within a₁ at r (length r) 0 k refl (omega (arith, l_a₁)) (omega arith)))
      ∙ sym
      (read_apart b₂ (at + k + 8) (replicate pad 0) pad at k (length-replicate pad 0) (inl (omega arith)) ∙ read_apart b₁ (at + k) t 8 at k eight (inl (omega arith))
      ∙ read_same m at (read r 0 k) k (length_read r 0 k) (omega arith))

  end : read a₃ (at + k) 8 ≡ read b₃ (at + k) 8
  end =
      read_same a₂ (at + k) t 8 eight (omega (arith, l_a₂))
      ∙ sym
      (read_apart b₂ (at + k + 8) (replicate pad 0) pad (at + k) 8 (length-replicate pad 0) (inl (omega arith)) ∙ read_same b₁ (at + k) t 8 eight (omega (arith, l_b₁)))

  behind : read a₃ (at + k + 8) pad ≡ read b₃ (at + k + 8) pad
  behind =
      let p : z + (8 - pad) ≡ at + k + 8 = omega arith in
      read_apart a₂ (at + k) t 8 (at + k + 8) pad eight (inr (omega arith)) ∙ read_apart a₁ at r (length r) (at + k + 8) pad refl (inr (omega arith))
      ∙ (rw p at (read_filled m z 8 0 (8 - pad) pad (omega arith) (omega arith)))
      ∙ sym (read_same b₂ (at + k + 8) (replicate pad 0) pad (length-replicate pad 0) (omega (arith, l_b₂)))

  uncovered : a₃ ≡ b₃
  uncovered =
      let la : length a₃ ≡ at + (k + (8 + (pad + rest))) = length-write a₂ (at + k) t ∙ l_a₂ ∙ long in
      let lb : length b₃ ≡ at + (k + (8 + (pad + rest))) = length-write b₂ (at + k + 8) (replicate pad 0) ∙ l_b₂ ∙ long in
      whole a₃ b₃ (at + (k + (8 + (pad + rest)))) la lb
      (join a₃ b₃ 0 at (k + (8 + (pad + rest))) at (sym (zero-add at)) (below 0 at (omega arith))
      (join a₃ b₃ at k (8 + (pad + rest)) (at + k) refl run
      (join a₃ b₃ (at + k) 8 (pad + rest) (at + k + 8) refl end
      (join a₃ b₃ (at + k + 8) pad rest (at + k + 8 + pad) refl behind (above (at + k + 8 + pad) rest (omega arith))))))

  -- one run behind the other
  pub laid_over : a₃ ≡ write m at ((read r 0 k ++ t) ++ replicate pad 0)
  laid_over =
      let p : List ℕ = read r 0 k in
      let n : length (p ++ t) ≡ k + 8 = length-append p t ∙ ap₂ (λ (x y : ℕ). x + y) (length_read r 0 k) eight in
      let e : at + (k + 8) ≡ at + k + 8 = omega arith in
      uncovered
      ∙ sym
      (write_append m at (p ++ t) (replicate pad 0) ∙ ap (λ (x : ℕ). write (write m at (p ++ t)) (at + x) (replicate pad 0)) n
      ∙ ap (λ (x : ℕ). write (write m at (p ++ t)) x (replicate pad 0)) e
      ∙ ap (λ (x : List ℕ). write x (at + k + 8) (replicate pad 0))
      (write_append m at p t ∙ ap (λ (x : ℕ). write (write m at p) (at + x) t) (length_read r 0 k)))

-- ---- the name

module _ (d : List ℕ) (at : ℕ) (src : List ℕ) (from len last : ℕ) (b : Bytes src) (some : 8 ≤ len) (small : last < 2 ^ 56) where
  abbrev name : List ℕ
  name = read src from (len - 7) ++ bytes_of 7 last

  size : length name ≡ len
  size = length-append (read src from (len - 7)) (bytes_of 7 last) ∙ omega (arith, length_read src from (len - 7), length_bytes_of 7 last)

  -- the last eight bytes
  ending : (v : ℕ) → v ≡ get 1 src (from + (len - 8)) → bytes_of 8 (last * 256 + v) ≡ read src (from + (len - 8)) 1 ++ bytes_of 7 last
  unfolding bytes_of read
  ending v e =
      let f : get 1 src (from + (len - 8)) < 256 ^ 1 = get_fits 1 src (from + (len - 8)) b in
      let g : get_or src (from + (len - 8)) 0 ≡ v = get_one src (from + (len - 8)) ∙ sym e in
      let low : (last * 256 + v) % 256 ≡ v = omega arith in
      let high : (last * 256 + v) / 256 ≡ last = omega arith in
      rw (low, high, g)

  module _ (e₁ e₂ e₃ : List ℕ) (v : ℕ) (h : at + (len + 7) / 8 * 8 ≤ length d) (q₁ : e₁ ≡ put 8 d (at + (len + 7) / 8 * 8 - 8) 0)
      (q₂ : e₂ ≡ write e₁ at (read src from (8 * (len / 8)))) (qv : v ≡ get 1 src (from + (len - 8))) (q₃ : e₃ ≡ put 8 e₂ (at + (len - 8)) (last * 256 + v)) where
    abbrev tail : List ℕ
    tail = bytes_of 8 (last * 256 + v)

    abbrev pad : ℕ
    pad = padding len

    -- the writes
    over : e₃ ≡ write d at ((read (read src from (8 * (len / 8))) 0 (len - 8) ++ tail) ++ replicate pad 0)
    unfolding put
    over =
        let z : e₁ ≡ write d (at + (len + 7) / 8 * 8 - 8) (replicate 8 0) = q₁ ∙ ap (write d (at + (len + 7) / 8 * 8 - 8)) (zeros 8) in
        q₃ ∙ ap (λ (x : List ℕ). write x (at + (len - 8)) tail) (q₂ ∙ ap (λ (x : List ℕ). write x at (read src from (8 * (len / 8)))) z)
        ∙ laid_over d at (at + (len + 7) / 8 * 8 - 8) (len - 8) pad (length d - (at + (len + 7) / 8 * 8)) (read src from (8 * (len / 8))) tail (omega arith) (omega arith) (omega arith) (omega arith)
        (omega (arith, length_read src from (8 * (len / 8)))) (omega (arith, length_read src from (8 * (len / 8)))) (length_bytes_of 8 (last * 256 + v))

    -- they are the name
    spelt : read (read src from (8 * (len / 8))) 0 (len - 8) ++ tail ≡ name
    spelt =
        let p : read (read src from (8 * (len / 8))) 0 (len - 8) ≡ read src from (len - 8) =
        read_part src from (8 * (len / 8)) 0 (len - 8) (omega arith) ∙ ap (λ (x : ℕ). read src x (len - 8)) (add-zero from) in
        let n : len - 8 + 1 ≡ len - 7 = omega arith in
        ap₂ (λ (x y : List ℕ). x ++ y) p (ending v qv) ∙ sym (append_assoc (read src from (len - 8)) (read src (from + (len - 8)) 1) (bytes_of 7 last))
        ∙ ap (λ (x : List ℕ). x ++ bytes_of 7 last) (sym (read_add src from (len - 8) 1) ∙ ap (read src from) n)

    pub long_words : e₃ ≡ write d at (name_field name)
    unfolding name_field
    long_words = over ∙ ap (λ (x : List ℕ). write d at (x ++ replicate pad 0)) spelt ∙ ap (λ (n : ℕ). write d at (name ++ replicate (padding n) 0)) (sym size)

-- ---- the entry

module _ (src : List ℕ) (from len last : ℕ) (some : 8 ≤ len) where
  abbrev text : List ℕ
  text = read src from (len - 7) ++ bytes_of 7 last

  text_length : len ≡ length text
  text_length = omega (arith, length-append (read src from (len - 7)) (bytes_of 7 last), length_read src from (len - 7), length_bytes_of 7 last)

  pub long_out : (d : List ℕ) (ino off : ℕ) → length d < 24 + (len + 7) / 8 * 8 → Lays d (length d) (dirent ino off text ∷ []) 0 d
  long_out d ino off h = sized_out d ino off text len text_length h

  pub long_in : (d : List ℕ) (ino off r : ℕ) (e f : List ℕ) → r ≡ 24 + (len + 7) / 8 * 8 → r ≤ length d → e ≡ write d 0 (fields dirent_row (ino ∷ off ∷ len ∷ 0 ∷ [])) → f ≡ write e 24 (name_field text)
      → Lays d (length d) (dirent ino off text ∷ []) r f
  long_in d ino off r e f q h a b = sized_in d ino off text len text_length r e f q h a b
