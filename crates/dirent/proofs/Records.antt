-- One record: how long it is, what is told of it where it is laid or not, and its parts written one by one. Assumes nothing.
use mathlib.Core.Path.{◌≡◌, refl, sym, ap, ◌∙◌}
use mathlib.Core.List.{List, [], ◌∷◌, ◌++◌, append-nil}
use Prim.Native.Nat.{ℕ, ◌+◌, ◌-◌, ◌*◌, ◌/◌, ◌%◌, ◌^◌, ◌≤◌, ◌<◌}
use native.Mathlib.Nat.{zero-add}
use native.Mathlib.Omega.{arith}
use native.Mathlib.Decide.{dec_le}
use lib.ListN.{length, replicate, length-append, length-replicate}
use borrow.Author.Tests.{le-leb, lt-leb}
use Rattle.rules.specs.Fields.{fields}
use Rattle.rules.specs.Listing.{padding, record_of, dirent_row, dirent, laid_records}
use Rattle.rules.proofs.Fields.{fields_length}
use Rattle.le.specs.Mem.{write, put}
use Rattle.le.proofs.Lens.{write_append, put_write, low_bytes}
use Rattle.le.proofs.Writes.{write_over}
use Rattle.dirent.specs.Lays.{Lays, name_field, EveryWhole, EveryEights, LaysOver}

-- ---- how long it is

record_length : (f p : List ℕ) → length (record_of f p) ≡ length f + length p + padding (length f + length p)
unfolding record_of
record_length f p = simp (length-append, length-replicate) (omega arith)

pub record_whole : EveryWhole
record_whole f p e = omega (arith, record_length f p)

record_eights : (f p : List ℕ) → length (record_of f p) % 8 ≡ 0
record_eights f p = omega (arith, record_length f p)

abbrev pub front_of : ℕ → ℕ → List ℕ → List ℕ
front_of ino off name = fields dirent_row (ino ∷ off ∷ length name ∷ 0 ∷ [])

module _ (ino off : ℕ) (name : List ℕ) where
  pub front_length : length (front_of ino off name) ≡ 24
  front_length = fields_length dirent_row (ino ∷ off ∷ length name ∷ 0 ∷ []) refl

  pub entry_some : 0 < length (dirent ino off name)
  unfolding dirent
  entry_some = omega (arith, front_length, record_length (front_of ino off name) name)

pub entry_eights : EveryEights
unfolding dirent
entry_eights ino off name = record_eights (front_of ino off name) name

-- ---- laid or not

pub laid_in : (room : ℕ) (r : List ℕ) (rs : List (List ℕ)) → length r ≤ room → laid_records room (r ∷ rs) ≡ r ++ laid_records (room - length r) rs
unfolding laid_records
laid_in room r rs h = rw (le-leb (length r) room h)

pub laid_out_lem : (room : ℕ) (r : List ℕ) (rs : List (List ℕ)) → room < length r → laid_records room (r ∷ rs) ≡ []
unfolding laid_records
laid_out_lem room r rs h = rw (lt-leb (length r) room h)

laid_within : (room : ℕ) (rs : List (List ℕ)) → length (laid_records room rs) ≤ room
unfolding laid_records
laid_within room [] = omega arith
laid_within room (r ∷ rs) = go (dec_le (length r) room) (laid_within (room - length r) rs)
  where
    go : Dec (length r ≤ room) → length (laid_records (room - length r) rs) ≤ room - length r → length (laid_records room (r ∷ rs)) ≤ room
    go (yes h) w = omega (arith, ap length (laid_in room r rs h), length-append r (laid_records (room - length r) rs))
    go (no h) w = omega (arith, ap length (laid_out_lem room r rs (omega arith)))

-- the bytes after, part by part: the records, and what stood behind them
pub lays_over : LaysOver
lays_over d room rs n e h w = rw w.count (w.bytes ∙ write_over d (laid_records room rs) (omega (arith, laid_within room rs)))

-- a record that was laid, and one that was not
pub record Laid-in (d : List ℕ) (room : ℕ) (r : List ℕ) (n : ℕ) (e : List ℕ) : Type 0 where
  pub fits : length r ≤ room
  pub count : n ≡ length r
  pub bytes : e ≡ write d 0 r

pub record Laid_out (d : List ℕ) (room : ℕ) (r : List ℕ) (n : ℕ) (e : List ℕ) : Type 0 where
  pub short : room < length r
  pub count : n ≡ 0
  pub bytes : e ≡ d

module _ (d : List ℕ) (room : ℕ) (r : List ℕ) (n : ℕ) (e : List ℕ) where
  one : length r ≤ room → laid_records room (r ∷ []) ≡ r
  unfolding laid_records
  one h = laid_in room r [] h ∙ append-nil r

  pub lays_in : Laid-in d room r n e → Lays d room (r ∷ []) n e
  lays_in w = let q = one w.fits in record { count = w.count ∙ ap length (sym q); bytes = w.bytes ∙ ap (write d 0) (sym q) }

  pub lays_out : Laid_out d room r n e → Lays d room (r ∷ []) n e
  lays_out w = let q = laid_out_lem room r [] w.short in record { count = w.count ∙ ap length (sym q); bytes = w.bytes ∙ ap (write d 0) (sym q) }

  -- by the answer: not 0
  pub was_laid : Lays d room (r ∷ []) n e → (n ≡ 0 → ⊥) → Laid-in d room r n e
  was_laid w z = go (dec_le (length r) room)
    where
      go : Dec (length r ≤ room) → Laid-in d room r n e
      go (yes h) = let q = one h in record { fits = h; count = w.count ∙ ap length q; bytes = w.bytes ∙ ap (write d 0) q }
      go (no h) = absurd (z (w.count ∙ ap length (laid_out_lem room r [] (omega arith))))

  -- or 0
  pub was_not : Lays d room (r ∷ []) n e → 0 < length r → n ≡ 0 → Laid_out d room r n e
  was_not w some z = go (dec_le (length r) room)
    where
      go : Dec (length r ≤ room) → Laid_out d room r n e
      go (yes h) = absurd (omega (arith, w.count, ap length (one h)))
      go (no h) = let s : room < length r = omega arith in record { short = s; count = z; bytes = w.bytes ∙ ap (write d 0) (laid_out_lem room r [] s) }

-- ---- part by part

-- a fixed part at 0, and behind it the name with its zeros
pub parts : (d f p e₁ e₂ : List ℕ) → e₁ ≡ write d 0 f → e₂ ≡ write e₁ (length f) (p ++ replicate (padding (length f + length p)) 0) → e₂ ≡ write d 0 (record_of f p)
unfolding record_of
parts d f p e₁ e₂ a b =
    let t : List ℕ = p ++ replicate (padding (length f + length p)) 0 in
    b ∙ ap (λ (m : List ℕ). write m (length f) t) a ∙ sym (write_append d 0 f t ∙ ap (λ (k : ℕ). write (write d 0 f) k t) (zero-add (length f)))

-- the zeros of a name are those behind n bytes more, a multiple of 8
name_zeros : (n : ℕ) (p : List ℕ) → n % 8 ≡ 0 → name_field p ≡ p ++ replicate (padding (n + length p)) 0
unfolding name_field
name_zeros n p e = let k : padding (length p) ≡ padding (n + length p) = omega arith in ap (λ (z : ℕ). p ++ replicate z 0) k

-- the fixed part of an entry, field by field

row_on : (w v : ℕ) (ws vs d : List ℕ) (at : ℕ) (e : List ℕ) → e ≡ put w d at v → write e (at + w) (fields ws vs) ≡ write d at (fields (w ∷ ws) (v ∷ vs))
unfolding fields
row_on w v ws vs d at e q = ap (λ (m : List ℕ). write m (at + w) (fields ws vs)) q ∙ put_write w d at v (fields ws vs)

pub front_fields : (d : List ℕ) (at ino off n : ℕ) (e₁ e₂ e₃ e₄ : List ℕ)
    → e₁ ≡ put 8 d at ino → e₂ ≡ put 8 e₁ (at + 8) off → e₃ ≡ put 4 e₂ (at + 16) n → e₄ ≡ put 4 e₃ (at + 20) 0 → e₄ ≡ write d at (fields dirent_row (ino ∷ off ∷ n ∷ 0 ∷ []))
unfolding fields put
front_fields d at ino off n e₁ e₂ e₃ e₄ q₁ q₂ q₃ q₄ =
    let p : at + 8 + 8 ≡ at + 16 = omega arith in
    let q : at + 16 + 4 ≡ at + 20 = omega arith in
    row_on 4 0 [] [] e₃ (at + 20) e₄ q₄ ∙ ap (λ (k : ℕ). write e₃ k (fields (4 ∷ []) (0 ∷ []))) (sym q) ∙ row_on 4 n (4 ∷ []) (0 ∷ []) e₂ (at + 16) e₃ q₃
    ∙ ap (λ (k : ℕ). write e₂ k (fields (4 ∷ 4 ∷ []) (n ∷ 0 ∷ []))) (sym p) ∙ row_on 8 off (4 ∷ 4 ∷ []) (n ∷ 0 ∷ []) e₁ (at + 8) e₂ q₂
    ∙ row_on 8 ino (8 ∷ 4 ∷ 4 ∷ []) (off ∷ n ∷ 0 ∷ []) d at e₁ q₁

-- the name length stands in four bytes
front_low : (ino off n : ℕ) → fields dirent_row (ino ∷ off ∷ n % 256 ^ 4 ∷ 0 ∷ []) ≡ fields dirent_row (ino ∷ off ∷ n ∷ 0 ∷ [])
unfolding fields
front_low ino off n = rw (low_bytes 4 n)

-- an entry: its fixed part at 0, and its name at 24
module _ (d : List ℕ) (ino off : ℕ) (name : List ℕ) where
  abbrev front : List ℕ
  front = front_of ino off name

  pub entry_whole : length (dirent ino off name) ≡ 24 + (length name + 7) / 8 * 8
  unfolding dirent
  entry_whole = omega (arith, front_length ino off name, record_whole front name (rw (front_length ino off name)))

  pub entry_out : length d < 24 + (length name + 7) / 8 * 8 → Lays d (length d) (dirent ino off name ∷ []) 0 d
  entry_out h = lays_out d (length d) (dirent ino off name) 0 d (record { short = omega (arith, entry_whole); count = refl; bytes = refl })

  pub entry_in : (n : ℕ) (e₁ e₂ : List ℕ) → n ≡ 24 + (length name + 7) / 8 * 8 → n ≤ length d → e₁ ≡ write d 0 front → e₂ ≡ write e₁ 24 (name_field name)
      → Lays d (length d) (dirent ino off name ∷ []) n e₂
  unfolding dirent
  entry_in n e₁ e₂ q h a b =
      let l : length front ≡ 24 = front_length ino off name in
      let t : e₂ ≡ write e₁ (length front) (name ++ replicate (padding (length front + length name)) 0) =
      b ∙ ap (λ (k : ℕ). write e₁ k (name_field name)) (sym l) ∙ ap (write e₁ (length front)) (name_zeros (length front) name (rw l)) in
      lays_in d (length d) (dirent ino off name) n e₂ (record { fits = omega (arith, entry_whole); count = q ∙ sym entry_whole; bytes = parts d front name e₁ e₂ a t })

  -- the name length in its four bytes; the name, and then the zeros
  pub entry_run : (n : ℕ) (e₁ e₂ e₃ : List ℕ) → n ≡ 24 + (length name + 7) / 8 * 8 → n ≤ length d → e₁ ≡ write d 0 (fields dirent_row (ino ∷ off ∷ length name % 256 ^ 4 ∷ 0 ∷ []))
      → e₂ ≡ write e₁ 24 name → e₃ ≡ write e₂ (24 + length name) (replicate (n - (24 + length name)) 0)
      → Lays d (length d) (dirent ino off name ∷ []) n e₃
  unfolding name_field
  entry_run n e₁ e₂ e₃ q h a b c =
      let zs : List ℕ = replicate (n - (24 + length name)) 0 in
      let k : n - (24 + length name) ≡ padding (length name) = omega arith in
      entry_in n e₁ e₃ q h (a ∙ ap (write d 0) (front_low ino off (length name)))
      (c ∙ ap (λ (m : List ℕ). write m (24 + length name) zs) b ∙ sym (write_append e₁ 24 name zs) ∙ ap (λ (z : ℕ). write e₁ 24 (name ++ replicate z 0)) k)

-- the same, by another spelling of the length of the name
module _ (d : List ℕ) (ino off : ℕ) (name : List ℕ) (l : ℕ) (size : l ≡ length name) where
  pub sized_out : length d < 24 + (l + 7) / 8 * 8 → Lays d (length d) (dirent ino off name ∷ []) 0 d
  sized_out h = entry_out d ino off name (omega (arith, size))

  pub sized_in : (r : ℕ) (e f : List ℕ) → r ≡ 24 + (l + 7) / 8 * 8 → r ≤ length d → e ≡ write d 0 (fields dirent_row (ino ∷ off ∷ l ∷ 0 ∷ [])) → f ≡ write e 24 (name_field name)
      → Lays d (length d) (dirent ino off name ∷ []) r f
  sized_in r e f q h a b = entry_in d ino off name r e f (omega (arith, size)) h (a ∙ ap (λ (m : ℕ). write d 0 (fields dirent_row (ino ∷ off ∷ m ∷ 0 ∷ []))) size) b
