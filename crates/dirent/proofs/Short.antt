-- A name that has 1 to 7 bytes and comes as a number: name and zeros are the bytes of one number. Assumes nothing.
use mathlib.Core.Path.{◌≡◌, sym, ap, ◌∙◌}
use mathlib.Core.List.{List, [], ◌∷◌, ◌++◌}
use Prim.Native.Nat.{ℕ, ◌+◌, ◌-◌, ◌*◌, ◌%◌, ◌^◌, ◌≤◌, ◌<◌}
use native.Mathlib.Omega.{arith}
use lib.ListN.{length, replicate}
use lib.Pow.{pow_pos, shl_exact}
use Rattle.rules.specs.Fields.{bytes_of, fields}
use Rattle.rules.specs.Listing.{padding, dirent_row, dirent}
use Rattle.rules.proofs.Fields.{bytes_bits, length_bytes_of}
use Rattle.le.specs.Mem.{write, put}
use Rattle.le.proofs.Lens.{masked}
use Rattle.dirent.specs.Lays.{Lays, name_field}
use Rattle.dirent.proofs.Records.{sized_in, sized_out}

-- ---- the mask

-- a bit below the top
pub bit_some : (k : ℕ) → k < 64 → 0 < 1 * 2 ^ k % 2 ^ 64
bit_some k h =
    let s : 1 * 2 ^ k % 2 ^ 64 ≡ 1 * 2 ^ k = shl_exact 1 k 64 (omega arith) (omega arith) in
    let p : 0 < 2 ^ k = pow_pos k in
    omega arith

-- the bit above l bytes
above : (l : ℕ) → l ≤ 7 → 1 * 2 ^ (8 * l) % 2 ^ 64 ≡ 256 ^ l
above l h =
    let s : 1 * 2 ^ (8 * l) % 2 ^ 64 ≡ 1 * 2 ^ (8 * l) = shl_exact 1 (8 * l) 64 (omega arith) (omega arith) in
    let t : 2 ^ (8 * l) ≡ 256 ^ l = bytes_bits l in
    omega arith

-- ---- the name

module _ (l w : ℕ) (few : l ≤ 7) where
  -- with its zeros it is a number
  spelt : 1 ≤ l → bytes_of 8 (w % 256 ^ l) ≡ name_field (bytes_of l w)
  unfolding name_field
  spelt some =
      let k : padding (length (bytes_of l w)) ≡ 8 - l = omega (arith, length_bytes_of l w) in
      let e : l + (8 - l) ≡ 8 = omega arith in
      ap (λ (n : ℕ). bytes_of n (w % 256 ^ l)) (sym e) ∙ masked l (8 - l) w ∙ ap (λ (n : ℕ). bytes_of l w ++ replicate n 0) (sym k)

  pub short_word : (d e : List ℕ) (at : ℕ) → 1 ≤ l → e ≡ put 8 d at (w % (1 * 2 ^ (8 * l) % 2 ^ 64)) → e ≡ write d at (name_field (bytes_of l w))
  unfolding put
  short_word d e at some q = q ∙ ap (λ (n : ℕ). write d at (bytes_of 8 (w % n))) (above l few) ∙ ap (write d at) (spelt some)

  -- ---- the entry

  pub short_out : (d : List ℕ) (ino off : ℕ) → 1 ≤ l → length d < 32 → Lays d (length d) (dirent ino off (bytes_of l w) ∷ []) 0 d
  short_out d ino off some h = sized_out d ino off (bytes_of l w) l (sym (length_bytes_of l w)) (omega arith)

  pub short_in : (d : List ℕ) (ino off : ℕ) → 1 ≤ l → (e f : List ℕ) → 32 ≤ length d → e ≡ write d 0 (fields dirent_row (ino ∷ off ∷ l ∷ 0 ∷ [])) → f ≡ write e 24 (name_field (bytes_of l w))
      → Lays d (length d) (dirent ino off (bytes_of l w) ∷ []) 32 f
  short_in d ino off some e f h a b = sized_in d ino off (bytes_of l w) l (sym (length_bytes_of l w)) 32 e f (omega arith) h a b
