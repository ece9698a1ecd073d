-- Laws of little-endian fields and of rows of them, over every width and place. Assumes nothing.
use mathlib.Core.Path.{◌≡◌, refl, sym, ap, ap₂, ◌∙◌, subst}
use mathlib.Core.List.{List, [], ◌∷◌, ◌++◌, append_assoc}
use Prim.Native.Nat.{ℕ, zero, suc, ◌+◌, ◌*◌, ◌/◌, ◌%◌, ◌^◌, ◌≤◌, ◌<◌}
use native.Mathlib.Nat.{add-zero, zero-add, suc-add, pow-suc, pow-succ', mul_assoc, mod-one, mod-eq_of_lt, one-le-pow}
use native.Mathlib.Omega.{arith}
use native.Mathlib.Numerals.{add-one}
use lib.ListN.{length, get_or, take, drop, length-append}
use lib.Seq.{take_at, drop_at, take-length, drop-cons}
use lib.Arith.{mod-mul}
use lib.Pow.{pow-add}
use lib.Dec.{lit<}
use Rattle.rules.specs.Bytes.{Bytes}
use Rattle.rules.specs.Fields.{read, value, bytes_of, get, fields, row_length, field_place, field_at}

-- ---- lengths

pub length_read : (b : List ℕ) (at k : ℕ) → length (read b at k) ≡ k
unfolding read
length_read b at zero = refl
length_read b at (suc k) = ap suc (length_read b (at + 1) k)

pub length_bytes_of : (k v : ℕ) → length (bytes_of k v) ≡ k
unfolding bytes_of
length_bytes_of zero v = refl
length_bytes_of (suc k) v = ap suc (length_bytes_of k (v / 256))

-- ---- a number and its bytes

pow_step : (n v : ℕ) → 256 ^ suc n * v ≡ 256 * (256 ^ n * v)
pow_step n v = ap (λ (x : ℕ). x * v) (pow-succ' 256 n) ∙ mul_assoc 256 (256 ^ n) v

pub value_append : (a b : List ℕ) → value (a ++ b) ≡ value a + 256 ^ length a * value b
unfolding value
value_append [] b = omega arith
value_append (x ∷ a) b = omega (arith, value_append a b, pow_step (length a) (value b))

-- so many bytes in bits
pub bytes_bits : (k : ℕ) → 2 ^ (8 * k) ≡ 256 ^ k
bytes_bits zero = refl
bytes_bits (suc k) =
    let e : 8 * suc k ≡ 8 * k + 8 = omega arith in
    ap (λ (n : ℕ). 2 ^ n) e ∙ pow-add 2 (8 * k) 8 ∙ ap (λ (n : ℕ). n * 256) (bytes_bits k) ∙ sym (pow-suc 256 k)

-- a remainder by one byte more
pub mod_step : (k v : ℕ) → v % 256 ^ suc k ≡ (v / 256 % 256 ^ k) * 256 + v % 256
mod_step k v = ap (λ (n : ℕ). v % n) (pow-suc 256 k) ∙ mod-mul v (one-le-pow k 256 (lit< tt)) (lit< tt)

pub value_bytes : (k v : ℕ) → value (bytes_of k v) ≡ v % 256 ^ k
unfolding value bytes_of
value_bytes zero v = sym (mod-one v)
value_bytes (suc k) v = omega (arith, value_bytes k (v / 256), mod_step k v)

-- the bytes of a number that was read
pub bytes_back : (k : ℕ) (b : List ℕ) (at : ℕ) → Bytes b → bytes_of k (get k b at) ≡ read b at k
unfolding bytes_of get value read
bytes_back zero b at h = refl
bytes_back (suc k) b at h =
    let x = h at in
    let low : (get_or b at 0 + 256 * value (read b (at + 1) k)) % 256 ≡ get_or b at 0 = omega arith in
    let high : (get_or b at 0 + 256 * value (read b (at + 1) k)) / 256 ≡ value (read b (at + 1) k) = omega arith in
    rw (low, high) (ap (λ (l : List ℕ). get_or b at 0 ∷ l) (bytes_back k b (at + 1) h))

pub get_fits : (k : ℕ) (b : List ℕ) (at : ℕ) → Bytes b → get k b at < 256 ^ k
unfolding get value read
get_fits zero b at h = omega arith
get_fits (suc k) b at h = omega (arith, h at, pow-succ' 256 k, get_fits k b (at + 1) h)

-- ---- runs

-- k + j bytes as k, then j
pub read_add : (b : List ℕ) (at k j : ℕ) → read b at (k + j) ≡ read b at k ++ read b (at + k) j
unfolding read
read_add b at zero j = rw (zero-add, add-zero)
read_add b at (suc k) j =
    let e : at + 1 + k ≡ at + suc k = omega arith in
    rw (suc-add, read_add b (at + 1) k j, e)

-- a run within the bytes, as a part of a slice has it
pub read_slice : (b : List ℕ) (at k : ℕ) → at + k ≤ length b → read b at k ≡ take k (drop at b)
unfolding read
read_slice b at zero h = refl
read_slice b at (suc k) h =
    let l : at < length b = omega arith in
    rw (drop-cons b at 0 l, read_slice b (at + 1) k (omega arith), add-one)

pub read_all : (b : List ℕ) → read b 0 (length b) ≡ b
read_all b = read_slice b 0 (length b) (omega arith) ∙ take-length b

-- what stands behind a list of known length is read there
pub read_behind : (pre xs post : List ℕ) (at : ℕ) → length pre ≡ at → read (pre ++ (xs ++ post)) at (length xs) ≡ xs
read_behind pre xs post at e =
    let l : length (pre ++ (xs ++ post)) ≡ length pre + (length xs + length post) = simp length-append in
    read_slice (pre ++ (xs ++ post)) at (length xs) (omega arith) ∙ ap (take (length xs)) (drop_at pre (xs ++ post) at e) ∙ take_at xs post (length xs) refl

get_behind : (k v : ℕ) (pre post : List ℕ) (at : ℕ) → length pre ≡ at → v < 256 ^ k → get k (pre ++ (bytes_of k v ++ post)) at ≡ v
unfolding get
get_behind k v pre post at e f =
    let r : read (pre ++ (bytes_of k v ++ post)) at k ≡ bytes_of k v =
    subst (λ (n : ℕ). read (pre ++ (bytes_of k v ++ post)) at n ≡ bytes_of k v) (length_bytes_of k v) (read_behind pre (bytes_of k v) post at e) in
    ap value r ∙ value_bytes k v ∙ mod-eq_of_lt f

-- ---- rows

-- as many values as widths, each within its width
unfoldable pub Fit : List ℕ → List ℕ → Type 0
Fit [] [] = Unit {0}
Fit [] (v ∷ vs) = ⊥
Fit (w ∷ ws) [] = ⊥
Fit (w ∷ ws) (v ∷ vs) = (v < 256 ^ w) × Fit ws vs

pub fields_length : (ws vs : List ℕ) → length ws ≡ length vs → length (fields ws vs) ≡ row_length ws
unfolding fields
fields_length [] vs e = refl
fields_length (w ∷ ws) [] e = absurd (omega arith)
fields_length (w ∷ ws) (v ∷ vs) e =
    length-append (bytes_of w v) (fields ws vs) ∙ ap₂ (λ (x y : ℕ). x + y) (length_bytes_of w v) (fields_length ws vs (omega arith))

-- a row of fields, read: the widths, and the place of the first
unfoldable pub fields_at : List ℕ → List ℕ → ℕ → List ℕ
fields_at [] b at = []
fields_at (w ∷ ws) b at = get w b at ∷ fields_at ws b (at + w)

-- field k of it, at its own place
field_place_lem : (ws : List ℕ) (k at : ℕ) → field_place ws k at ≡ at + row_length (take k ws)
field_place_lem ws zero at = omega arith
field_place_lem ws (suc k) at = refl

pub field_at_lem : (ws b : List ℕ) (k at : ℕ) → k < length ws → field_at ws k b at ≡ get_or (fields_at ws b at) k 0
unfolding fields_at
field_at_lem [] b k at h = absurd (omega arith)
field_at_lem (w ∷ ws) b zero at h = refl
field_at_lem (w ∷ ws) b (suc k) at h =
    let e : at + (w + row_length (take k ws)) ≡ field_place ws k (at + w) = omega (arith, field_place_lem ws k (at + w)) in
    ap (get (get_or ws k 0) b) e ∙ field_at_lem ws b k (at + w) (omega arith)

-- read and written again
pub fields_back : (ws b : List ℕ) (at : ℕ) → Bytes b → fields ws (fields_at ws b at) ≡ read b at (row_length ws)
unfolding fields fields_at read
fields_back [] b at h = refl
fields_back (w ∷ ws) b at h = ap₂ (λ (x y : List ℕ). x ++ y) (bytes_back w b at h) (fields_back ws b (at + w) h) ∙ sym (read_add b at w (row_length ws))

-- written and read again
pub fields_read : (ws vs pre post : List ℕ) (at : ℕ) → length pre ≡ at → Fit ws vs → fields_at ws (pre ++ (fields ws vs ++ post)) at ≡ vs
unfolding fields fields_at Fit
fields_read [] [] pre post at e f = refl
fields_read [] (v ∷ vs) pre post at e f = absurd f
fields_read (w ∷ ws) [] pre post at e f = absurd f
fields_read (w ∷ ws) (v ∷ vs) pre post at e f =
    let l : length (pre ++ bytes_of w v) ≡ at + w = length-append pre (bytes_of w v) ∙ ap₂ (λ (x y : ℕ). x + y) e (length_bytes_of w v) in
    rw (append_assoc (bytes_of w v) (fields ws vs) post)
    (ap₂ (λ (x : ℕ) (xs : List ℕ). x ∷ xs) (get_behind w v pre (fields ws vs ++ post) at e f.0)
    (ap (λ (b : List ℕ). fields_at ws b (at + w)) (sym (append_assoc pre (bytes_of w v) (fields ws vs ++ post))) ∙ fields_read ws vs (pre ++ bytes_of w v) post (at + w) l f.1))
