-- The library's bytes of a number are those of the rules. Assumes nothing.
use mathlib.Core.Path.{◌≡◌, refl, sym, ap, ◌∙◌}
use mathlib.Core.List.{List}
use Prim.Native.Nat.{ℕ, zero, suc, ◌/◌, ◌%◌, ◌^◌}
use native.Mathlib.Nat.{div-one, pow-suc, div-div-eq-div-mul}
use native.Mathlib.Omega.{arith}
use Rattle.std.specs.Int.{w16, w32, w64, from_le_bytes, bytes_low_first, byte_at}
use Rattle.le.specs.Mem.{read, value, bytes_of, get, write, put}

-- read

pub value_2 : (mem : List ℕ) (at : ℕ) → from_le_bytes w16 (read mem at 2) ≡ get 2 mem at
unfolding get value read
value_2 mem at = omega arith

pub value_4 : (mem : List ℕ) (at : ℕ) → from_le_bytes w32 (read mem at 4) ≡ get 4 mem at
unfolding get value read
value_4 mem at = omega arith

pub value_8 : (mem : List ℕ) (at : ℕ) → from_le_bytes w64 (read mem at 8) ≡ get 8 mem at
unfolding get value read
value_8 mem at = omega arith

-- written

byte_is : (i v : ℕ) → byte_at i v ≡ v / 256 ^ i % 256
byte_is zero v = rw div-one
byte_is (suc i) v = refl

bytes_from : (i k v : ℕ) → bytes_low_first i k v ≡ bytes_of k (v / 256 ^ i)
unfolding bytes_of
bytes_from i zero v = refl
bytes_from i (suc k) v =
    let e : v / 256 ^ suc i ≡ v / 256 ^ i / 256 = ap (λ n. v / n) (pow-suc 256 i) ∙ sym (div-div-eq-div-mul v (256 ^ i) 256) in
    rw (byte_is i v, bytes_from (suc i) k v, e)

low_first : (k v : ℕ) → bytes_low_first 0 k v ≡ bytes_of k v
low_first k v = bytes_from 0 k v ∙ ap (bytes_of k) (div-one v)

-- the bytes of a number, written
pub low_put : (k : ℕ) (mem d : List ℕ) (at v : ℕ) → d ≡ bytes_low_first 0 k v → write mem at d ≡ put k mem at v
unfolding put
low_put k mem d at v e = ap (write mem at) (e ∙ low_first k v)
