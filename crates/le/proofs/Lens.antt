-- Reading after writing, over every width, place and memory. Assumes nothing.
use mathlib.Core.Path.{◌≡◌, refl, sym, ap, ap₂, ◌∙◌}
use mathlib.Core.Logic.{◌⊎◌, inl, inr}
use mathlib.Core.List.{List, [], ◌∷◌, ◌++◌, append-nil}
use Prim.Native.Nat.{ℕ, zero, suc, ◌+◌, ◌*◌, ◌/◌, ◌%◌, ◌^◌, ◌≤◌, ◌<◌}
use native.Mathlib.Nat.{add-zero, zero-add, add_comm, mul_comm, suc-add, pow-succ', mod-lt, div-one, mod-eq_of_lt, div-eq_of_lt, one-le-pow, div-div-eq-div-mul}
use native.Mathlib.Omega.{arith}
use lib.ListN.{length, get_or, set, take, replicate, length-set, length-replicate, get_or-replicate}
use lib.Seq.{get_or-set_same, get_or-set_other}
pub use lib.Seq.{length-sets as length-write}
use lib.Arith.{digits_mod, digits_div}
use lib.Dec.{lit<}
use Rattle.rules.proofs.Fields.{length_read, length_bytes_of, value_append, value_bytes, mod_step, read_add, read_slice, read_all, get_fits}
use Rattle.le.specs.Mem.{read, value, bytes_of, get, write, put, Bytes}

-- ---- lengths are kept

pub length_put : (k : ℕ) (mem : List ℕ) (at v : ℕ) → length (put k mem at v) ≡ length mem
unfolding put
length_put k mem at v = length-write mem at (bytes_of k v)

-- ---- k + j bytes as k, then j

bytes_add : (k j v : ℕ) → bytes_of (k + j) v ≡ bytes_of k (v % 256 ^ k) ++ bytes_of j (v / 256 ^ k)
unfolding bytes_of
bytes_add zero j v = rw (zero-add, div-one)
bytes_add (suc k) j v =
    let low : v % 256 ^ suc k % 256 ≡ v % 256 = ap (λ (n : ℕ). n % 256) (mod_step k v) ∙ digits_mod (v / 256 % 256 ^ k) (mod-lt v (lit< tt)) in
    let high : v % 256 ^ suc k / 256 ≡ v / 256 % 256 ^ k = ap (λ (n : ℕ). n / 256) (mod_step k v) ∙ digits_div (v / 256 % 256 ^ k) (mod-lt v (lit< tt)) in
    let rest : v / 256 ^ suc k ≡ v / 256 / 256 ^ k = ap (λ (n : ℕ). v / n) (pow-succ' 256 k) ∙ sym (div-div-eq-div-mul v 256 (256 ^ k)) in
    rw (suc-add, low, high, rest, bytes_add k j (v / 256))

-- the lowest k bytes of a number
pub low_bytes : (k v : ℕ) → bytes_of k (v % 256 ^ k) ≡ bytes_of k v
unfolding bytes_of
low_bytes k v = sym (append-nil (bytes_of k (v % 256 ^ k))) ∙ sym (bytes_add k 0 v) ∙ ap (λ (n : ℕ). bytes_of n v) (add-zero k)

pub zeros : (k : ℕ) → bytes_of k 0 ≡ replicate k 0
unfolding bytes_of
zeros zero = refl
zeros (suc k) = ap (λ (bs : List ℕ). 0 ∷ bs) (zeros k)

-- the lowest l bytes of a number, and zeros behind them
pub masked : (l k w : ℕ) → bytes_of (l + k) (w % 256 ^ l) ≡ bytes_of l w ++ replicate k 0
masked l k w =
    let v : ℕ = w % 256 ^ l in
    let p : 1 ≤ 256 ^ l = one-le-pow l 256 (lit< tt) in
    let z : v / 256 ^ l ≡ 0 = div-eq_of_lt (mod-lt w p) in
    bytes_add l k v
    ∙ ap₂ (λ (a b : List ℕ). a ++ b) (low_bytes l v ∙ low_bytes l w) (ap (bytes_of k) z ∙ zeros k)

pub write_append : (mem : List ℕ) (at : ℕ) (a b : List ℕ) → write mem at (a ++ b) ≡ write (write mem at a) (at + length a) b
write_append mem at [] b = rw add-zero
write_append mem at (x ∷ a) b =
    let e : at + suc (length a) ≡ suc at + length a = omega arith in
    rw e (write_append (set mem at x) (suc at) a b)

pub get_add : (k j : ℕ) (mem : List ℕ) (at : ℕ) → get (k + j) mem at ≡ get k mem at + 256 ^ k * get j mem (at + k)
unfolding get
get_add k j mem at =
    ap value (read_add mem at k j) ∙ value_append (read mem at k) (read mem (at + k) j)
    ∙ ap (λ (n : ℕ). value (read mem at k) + 256 ^ n * value (read mem (at + k) j)) (length_read mem at k)

-- and they are parted again: the k bytes are what is left over, the j bytes what goes in whole
pub get_split : (k j : ℕ) (mem : List ℕ) (at : ℕ) → Bytes mem → (get (k + j) mem at % 256 ^ k ≡ get k mem at) × (get (k + j) mem at / 256 ^ k ≡ get j mem (at + k))
get_split k j mem at b =
    let whole : get (k + j) mem at ≡ get j mem (at + k) * 256 ^ k + get k mem at =
    get_add k j mem at ∙ add_comm (get k mem at) (256 ^ k * get j mem (at + k)) ∙ ap (λ (n : ℕ). n + get k mem at) (mul_comm (256 ^ k) (get j mem (at + k))) in
    let fits : get k mem at < 256 ^ k = get_fits k mem at b in
    (ap (λ (n : ℕ). n % 256 ^ k) whole ∙ digits_mod (get j mem (at + k)) fits, ap (λ (n : ℕ). n / 256 ^ k) whole ∙ digits_div (get j mem (at + k)) fits)

pub put_add : (k j : ℕ) (mem : List ℕ) (at v : ℕ) → put (k + j) mem at v ≡ put j (put k mem at (v % 256 ^ k)) (at + k) (v / 256 ^ k)
unfolding put
put_add k j mem at v =
    let b : List ℕ = bytes_of k (v % 256 ^ k) in
    ap (write mem at) (bytes_add k j v) ∙ write_append mem at b (bytes_of j (v / 256 ^ k))
    ∙ ap (λ (n : ℕ). write (write mem at b) (at + n) (bytes_of j (v / 256 ^ k))) (length_bytes_of k (v % 256 ^ k))

-- one byte: where the widths begin
pub get_one : (mem : List ℕ) (at : ℕ) → get_or mem at 0 ≡ get 1 mem at
unfolding get value read
get_one mem at = omega arith

pub put_one : (mem : List ℕ) (at v : ℕ) → v < 256 → set mem at v ≡ put 1 mem at v
unfolding put bytes_of
put_one mem at v h = ap (set mem at) (sym (mod-eq_of_lt h))

-- a number, and a run behind it
pub put_write : (k : ℕ) (mem : List ℕ) (at v : ℕ) (bs : List ℕ) → write (put k mem at v) (at + k) bs ≡ write mem at (bytes_of k v ++ bs)
unfolding put
put_write k mem at v bs =
    sym (write_append mem at (bytes_of k v) bs ∙ ap (λ (n : ℕ). write (write mem at (bytes_of k v)) (at + n) bs) (length_bytes_of k v))

-- ---- a read at a place apart from the l bytes that were written: below them, or above

abbrev pub Apart : ℕ → ℕ → ℕ → ℕ → Type 0
Apart p k at l = (p + k ≤ at) ⊎ (at + l ≤ p)

pub byte_apart : (mem : List ℕ) (at : ℕ) (bs : List ℕ) (p : ℕ) → Apart p 1 at (length bs) → get_or (write mem at bs) p 0 ≡ get_or mem p 0
byte_apart mem at [] p h = refl
byte_apart mem at (b ∷ bs) p (inl h) = byte_apart (set mem at b) (suc at) bs p (inl (omega arith)) ∙ get_or-set_other mem at p b 0 (λ e. omega arith)
byte_apart mem at (b ∷ bs) p (inr h) = byte_apart (set mem at b) (suc at) bs p (inr (omega arith)) ∙ get_or-set_other mem at p b 0 (λ e. omega arith)

pub read_apart : (mem : List ℕ) (at : ℕ) (bs : List ℕ) (l p k : ℕ) → length bs ≡ l → Apart p k at l → read (write mem at bs) p k ≡ read mem p k
unfolding read
read_apart mem at bs l p zero e h = refl
read_apart mem at bs l p (suc k) e (inl h) = λ i. byte_apart mem at bs p (inl (omega arith)) i ∷ read_apart mem at bs l (p + 1) k e (inl (omega arith)) i
read_apart mem at bs l p (suc k) e (inr h) = λ i. byte_apart mem at bs p (inr (omega arith)) i ∷ read_apart mem at bs l (p + 1) k e (inr (omega arith)) i

read_put_apart : (j : ℕ) (mem : List ℕ) (at v p k : ℕ) → Apart p k at j → read (put j mem at v) p k ≡ read mem p k
unfolding put
read_put_apart j mem at v p k h = read_apart mem at (bytes_of j v) j p k (length_bytes_of j v) h

pub get_put_apart : (k j : ℕ) (mem : List ℕ) (at v p : ℕ) → Apart p k at j → get k (put j mem at v) p ≡ get k mem p
unfolding get
get_put_apart k j mem at v p h = ap value (read_put_apart j mem at v p k h)

-- ---- a part of a run

-- two runs are equal by their bytes
pub read_ext : (a b : List ℕ) (p q k : ℕ) → ((i : ℕ) → i < k → get_or a (p + i) 0 ≡ get_or b (q + i) 0) → read a p k ≡ read b q k
unfolding read
read_ext a b p q zero h = refl
read_ext a b p q (suc k) h =
    λ t. (rw (add-zero p, add-zero q) at (h 0 (omega arith))) t
    ∷ read_ext a b (p + 1) (q + 1) k (λ i l.
    let e : p + (i + 1) ≡ p + 1 + i = omega arith in
    let f : q + (i + 1) ≡ q + 1 + i = omega arith in
    rw (e, f) at (h (i + 1) (omega arith))) t

byte_read : (mem : List ℕ) (p k i : ℕ) → i < k → get_or (read mem p k) i 0 ≡ get_or mem (p + i) 0
unfolding read
byte_read mem p zero i h = absurd (omega arith)
byte_read mem p (suc k) zero h = rw add-zero
byte_read mem p (suc k) (suc i) h =
    let e : p + 1 + i ≡ p + suc i = omega arith in
    byte_read mem (p + 1) k i (omega arith) ∙ rw e

-- w bytes, d bytes into a run
pub read_part : (mem : List ℕ) (p k d w : ℕ) → d + w ≤ k → read (read mem p k) d w ≡ read mem (p + d) w
read_part mem p k d w h =
    read_ext (read mem p k) mem d (p + d) w (λ i b.
    let e : p + d + i ≡ p + (d + i) = omega arith in
    rw e (byte_read mem p k (d + i) (omega arith)))

-- the beginning of a run
pub take_read : (mem : List ℕ) (p k w : ℕ) → w ≤ k → take w (read mem p k) ≡ read mem p w
take_read mem p k w h =
    let l : length (read mem p k) ≡ k = length_read mem p k in
    sym (read_slice (read mem p k) 0 w (omega arith)) ∙ read_part mem p k 0 w (omega arith) ∙ rw add-zero

-- ---- a read at the place of the l bytes that were written, or of a part of them

byte_write : (mem : List ℕ) (at : ℕ) (bs : List ℕ) (i : ℕ) → at + length bs ≤ length mem → i < length bs → get_or (write mem at bs) (at + i) 0 ≡ get_or bs i 0
byte_write mem at [] i h k = absurd (omega arith)
byte_write mem at (b ∷ bs) zero h k = rw add-zero (byte_apart (set mem at b) (suc at) bs at (inl (omega arith)) ∙ get_or-set_same mem at b 0 (omega arith))
byte_write mem at (b ∷ bs) (suc i) h k =
    let e : at + suc i ≡ suc at + i = omega arith in
    let l : length (set mem at b) ≡ length mem = length-set mem at b in
    rw e (byte_write (set mem at b) (suc at) bs i (omega arith) (omega arith))

-- w bytes, d bytes into what was written
pub read_within : (mem : List ℕ) (at : ℕ) (bs : List ℕ) (l d w : ℕ) → length bs ≡ l → at + l ≤ length mem → d + w ≤ l
    → read (write mem at bs) (at + d) w ≡ read bs d w
read_within mem at bs l d w n h k =
    read_ext (write mem at bs) bs (at + d) d w (λ i b.
    let e : at + d + i ≡ at + (d + i) = omega arith in
    rw e (byte_write mem at bs (d + i) (omega arith) (omega arith)))

-- all that was written
pub read_same : (mem : List ℕ) (at : ℕ) (bs : List ℕ) (l : ℕ) → length bs ≡ l → at + l ≤ length mem → read (write mem at bs) at l ≡ bs
read_same mem at bs l n h = rw add-zero at (read_within mem at bs l 0 l n h (omega arith)) ∙ ap (read bs 0) (sym n) ∙ read_all bs

read_put_same : (k : ℕ) (mem : List ℕ) (at v : ℕ) → at + k ≤ length mem → read (put k mem at v) at k ≡ bytes_of k v
unfolding put
read_put_same k mem at v h = read_same mem at (bytes_of k v) k (length_bytes_of k v) h

pub get_put_same : (k : ℕ) (mem : List ℕ) (at v : ℕ) → at + k ≤ length mem → v < 256 ^ k → get k (put k mem at v) at ≡ v
unfolding get
get_put_same k mem at v h f = ap value (read_put_same k mem at v h) ∙ value_bytes k v ∙ mod-eq_of_lt f

-- ---- runs copied or moved, and runs of one byte

-- w bytes, d bytes into a run of l bytes that came from another place, of this memory or another
pub read_moved : (mem src : List ℕ) (to from l d w : ℕ) → to + l ≤ length mem → d + w ≤ l
    → read (write mem to (read src from l)) (to + d) w ≡ read src (from + d) w
read_moved mem src to from l d w h k = read_within mem to (read src from l) l d w (length_read src from l) h k ∙ read_part src from l d w k

read_one : (l v d w : ℕ) → d + w ≤ l → read (replicate l v) d w ≡ replicate w v
unfolding read
read_one l v d zero h = refl
read_one l v d (suc w) h = λ t. get_or-replicate l d v 0 (omega arith) t ∷ read_one l v (d + 1) w (omega arith) t

-- w bytes, d bytes into l times one byte
pub read_filled : (mem : List ℕ) (at l v d w : ℕ) → at + l ≤ length mem → d + w ≤ l → read (write mem at (replicate l v)) (at + d) w ≡ replicate w v
read_filled mem at l v d w h k = read_within mem at (replicate l v) l d w (length-replicate l v) h k ∙ read_one l v d w k
