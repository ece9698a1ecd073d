-- What is written is bytes again. Assumes nothing.
use mathlib.Core.List.{List, [], ◌∷◌, ◌++◌}
use Prim.Native.Nat.{ℕ, zero, suc, ◌/◌, ◌≤◌, ◌<◌}
use native.Mathlib.Nat.{mod-lt}
use native.Mathlib.Omega.{arith}
use lib.ListN.{set, take, drop, replicate}
use lib.Dec.{lit<}
use Rattle.le.specs.Mem.{write, bytes_of}
use Rattle.rules.specs.Bytes.{Bytes}
use Rattle.tables.specs.Table.{Col, off, put_row}
use Rattle.tables.specs.Write.{from_place}
use Rattle.storage.specs.Header.{spell}

abbrev pub AllBytes : List (List ℕ) → Type 0
AllBytes [] = 0 ≤ 0
AllBytes (x ∷ xs) = Bytes x × AllBytes xs

nil_bytes : Bytes []
nil_bytes at = omega arith

pub zeros_bytes : (n : ℕ) → Bytes (replicate n 0)
zeros_bytes zero at = omega arith
zeros_bytes (suc n) zero = omega arith
zeros_bytes (suc n) (suc at) = zeros_bytes n at

pub number_bytes : (k v : ℕ) → Bytes (bytes_of k v)
unfolding bytes_of
number_bytes zero v at = omega arith
number_bytes (suc k) v zero = mod-lt v (lit< tt)
number_bytes (suc k) v (suc at) = number_bytes k (v / 256) at

pub append_bytes : (a b : List ℕ) → Bytes a → Bytes b → Bytes (a ++ b)
append_bytes [] b f g at = g at
append_bytes (x ∷ a) b f g zero = f 0
append_bytes (x ∷ a) b f g (suc at) = append_bytes a b (λ j. f (suc j)) g at

pub take_bytes : (n : ℕ) (s : List ℕ) → Bytes s → Bytes (take n s)
take_bytes zero s h at = omega arith
take_bytes (suc n) [] h at = omega arith
take_bytes (suc n) (x ∷ s) h zero = h 0
take_bytes (suc n) (x ∷ s) h (suc at) = take_bytes n s (λ j. h (suc j)) at

pub drop_bytes : (n : ℕ) (s : List ℕ) → Bytes s → Bytes (drop n s)
drop_bytes zero s h at = h at
drop_bytes (suc n) [] h at = omega arith
drop_bytes (suc n) (x ∷ s) h at = drop_bytes n s (λ j. h (suc j)) at

set_bytes : (mem : List ℕ) (at b : ℕ) → Bytes mem → b < 256 → Bytes (set mem at b)
set_bytes [] at b m h k = omega arith
set_bytes (x ∷ mem) zero b m h zero = h
set_bytes (x ∷ mem) zero b m h (suc k) = m (suc k)
set_bytes (x ∷ mem) (suc at) b m h zero = m 0
set_bytes (x ∷ mem) (suc at) b m h (suc k) = set_bytes mem at b (λ j. m (suc j)) h k

write_bytes : (mem : List ℕ) (at : ℕ) (bs : List ℕ) → Bytes mem → Bytes bs → Bytes (write mem at bs)
write_bytes mem at [] m h = m
write_bytes mem at (b ∷ bs) m h = write_bytes (set mem at b) (suc at) bs (set_bytes mem at b m (h 0)) (λ j. h (suc j))

pub row_bytes_lem : (cs : List Col) (xs : List (List ℕ)) (mem : List ℕ) (i : ℕ) → Bytes mem → AllBytes xs → Bytes (put_row cs xs mem i)
unfolding put_row
row_bytes_lem [] xs mem i m h = m
row_bytes_lem (c ∷ cs) [] mem i m h = m
row_bytes_lem (c ∷ cs) (x ∷ xs) mem i m h = row_bytes_lem cs xs (write mem (off c i) x) i (write_bytes mem (off c i) x m h.0) h.1

pub spell_bytes : (cs : List Col) (vs : List ℕ) → AllBytes (spell cs vs)
unfolding spell
spell_bytes [] vs = omega arith
spell_bytes (c ∷ cs) [] = omega arith
spell_bytes (c ∷ cs) (v ∷ vs) = (number_bytes c.width v, spell_bytes cs vs)

pub from_bytes : (k : ℕ) (xs : List (List ℕ)) → AllBytes xs → AllBytes (from_place k xs)
from_bytes zero xs h = h
from_bytes (suc k) xs h = (nil_bytes, from_bytes k xs h)
