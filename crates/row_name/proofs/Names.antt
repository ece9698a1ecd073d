-- The name of a row, copied from its two cells. Assumes nothing.
use mathlib.Core.Path.{◌≡◌, refl, sym, ap, ◌∙◌}
use mathlib.Core.List.{List, ◌∷◌, ◌++◌}
use Prim.Native.Nat.{ℕ, zero, suc, ◌+◌, ◌-◌, ◌/◌, ◌%◌, ◌≤◌, ◌<◌, min, max}
use native.Mathlib.Nat.{suc-add}
use native.Mathlib.Decide.{dec_le}
use native.Mathlib.Omega.{arith}
use lib.ListN.{length, take, length-append}
use lib.Seq.{take_all}
use Rattle.rules.proofs.Fields.{length_read, bytes_back, read_add}
use Rattle.le.specs.Mem.{read, bytes_of, get, write, Bytes}
use Rattle.le.proofs.Lens.{get_one, get_split, take_read, write_append}
use Rattle.tables.specs.Layout.{last_at, first_at}
use Rattle.tables.specs.View.{node_at}
use Rattle.tables.proofs.Cells.{name_at}
use Rattle.row_name.specs.Copied.{Copied, EveryNameShort}
use Rattle.row_name.proofs.Runs.{over}

-- the first w of k bytes, which are all of them where w is larger
take_least : (mem : List ℕ) (p k w : ℕ) → take w (read mem p k) ≡ read mem p (min w k)
take_least mem p k w = go (dec_le w k)
  where
    go : Dec (w ≤ k) → take w (read mem p k) ≡ read mem p (min w k)
    go (yes h) = let e : min w k ≡ w = omega arith in rw e (take_read mem p k w h)
    go (no h) = let e : min w k ≡ k = omega arith in rw e (take_all w (read mem p k) (omega (arith, length_read mem p k)))

-- the lowest l of l + j bytes of a number
take_bytes : (l j v : ℕ) → take l (bytes_of (l + j) v) ≡ bytes_of l v
unfolding bytes_of
take_bytes zero j v = refl
take_bytes (suc l) j v = rw suc-add (ap (λ (bs : List ℕ). v % 256 ∷ bs) (take_bytes l j (v / 256)))

module _ (n : ℕ) (mem : List ℕ) (i : ℕ) where
  abbrev name : List ℕ
  name = (node_at n mem i).name

  abbrev byte : ℕ
  byte = get 1 mem (last_at n i)

  by_byte : name ≡ read mem (first_at n i) (min (byte - 7) 248) ++ read mem (last_at n i + 1) (min (min byte 7) 7)
  by_byte = name_at n mem i ∙ rw (get_one mem (last_at n i), take_least mem (first_at n i) 248 (byte - 7), take_least mem (last_at n i + 1) 7 (min byte 7))

  size : length name ≡ min (byte - 7) 248 + min byte 7
  size =
      let p : List ℕ = read mem (first_at n i) (min (byte - 7) 248) in
      let q : List ℕ = read mem (last_at n i + 1) (min (min byte 7) 7) in
      ap length by_byte ∙ length-append p q
      ∙ omega (arith, length_read mem (first_at n i) (min (byte - 7) 248), length_read mem (last_at n i + 1) (min (min byte 7) 7))

  -- no name is longer, whatever the bytes are
  pub name_short : (l : ℕ) → l ≡ length name → l ≤ 255
  name_short l e = omega (arith, size)

  -- the first byte of its cell is its length
  pub name_size : (l : ℕ) → l ≡ byte → l < 256 → l ≡ length name
  name_size l e h = omega (arith, size)

  -- the bytes before the last seven, and those
  two : (l : ℕ) → l ≡ length name → name ≡ read mem (first_at n i) (l - 7) ++ read mem (last_at n i + 1) (min l 7)
  two l e =
      let a : min (byte - 7) 248 ≡ l - 7 = omega (arith, size) in
      let b : min (min byte 7) 7 ≡ min l 7 = omega (arith, size) in
      by_byte ∙ rw (a, b)

  -- ---- its cell as a number

  module _ (v : ℕ) (e : v ≡ get 8 mem (last_at n i)) (b : Bytes mem) where
    -- the cell's bytes: the lowest, and the seven above it
    apart : (v % 256 ≡ byte) × (bytes_of 7 (v / 256) ≡ read mem (last_at n i + 1) 7)
    apart =
        let s = get_split 1 7 mem (last_at n i) b in
        (ap (λ (k : ℕ). k % 256) e ∙ s.0, ap (λ (k : ℕ). bytes_of 7 (k / 256)) e ∙ ap (bytes_of 7) s.1 ∙ bytes_back 7 mem (last_at n i + 1) b)

    -- the lowest is the length
    cell_size : v % 256 ≡ length name
    cell_size = name_size (v % 256) apart.0 (omega arith)

    -- a name of up to seven bytes is the number above it
    pub cell_name : v % 256 ≤ 7 → name ≡ bytes_of (v % 256) (v / 256)
    unfolding read
    cell_name h =
        let l : ℕ = v % 256 in
        let z : l - 7 ≡ 0 = omega arith in
        let m : min l 7 ≡ l = omega arith in
        let j : l + (7 - l) ≡ 7 = omega arith in
        let low : take l (bytes_of 7 (v / 256)) ≡ bytes_of l (v / 256) = ap (λ (k : ℕ). take l (bytes_of k (v / 256))) (sym j) ∙ take_bytes l (7 - l) (v / 256) in
        let all : name ≡ read mem (last_at n i + 1) l = two l cell_size ∙ rw (z, m) in
        all ∙ sym (sym low ∙ ap (take l) apart.1 ∙ take_read mem (last_at n i + 1) 7 l h)

    -- a longer one has seven bytes there
    pub cell_names : 7 < v % 256 → name ≡ read mem (first_at n i) (v % 256 - 7) ++ bytes_of 7 (v / 256)
    cell_names h =
        let m : min (v % 256) 7 ≡ 7 = omega arith in
        two (v % 256) cell_size ∙ rw (m, apart.1)

  -- ---- its l bytes into d at a place

  module _ (l : ℕ) (d : List ℕ) (to : ℕ) (e : l ≡ length name) where
    -- the last bytes are all of it
    pub copied_short : l ≤ 7 → (f : List ℕ) → f ≡ write d to (read mem (last_at n i + 1) l) → Copied name d to l f
    unfolding read
    copied_short h f w =
        let z : l - 7 ≡ 0 = omega arith in
        let m : min l 7 ≡ l = omega arith in
        let k : name ≡ read mem (last_at n i + 1) l = two l e ∙ rw (z, m) in
        record { count = e; bytes = w ∙ ap (write d to) (sym k) }

    -- the bytes before the last seven, or eight where they are fewer, and the last seven over what is too much
    pub copied_long : 7 < l → (f g : List ℕ) → f ≡ write d to (read mem (first_at n i) (max (l - 7) 8)) → g ≡ write f (to + (l - 7)) (read mem (last_at n i + 1) 7) → Copied name d to l g
    copied_long h f g w v =
        let m : min l 7 ≡ 7 = omega arith in
        let r : max (l - 7) 8 ≡ (l - 7) + (max (l - 7) 8 - (l - 7)) = omega arith in
        let p : List ℕ = read mem (first_at n i) (l - 7) in
        let o : List ℕ = read mem (first_at n i + (l - 7)) (max (l - 7) 8 - (l - 7)) in
        let q : List ℕ = read mem (last_at n i + 1) 7 in
        let k : name ≡ p ++ q = two l e ∙ rw m in
        let apart : (x : List ℕ) → write (write d to p) (to + (l - 7)) x ≡ write d to (p ++ x) =
        λ x. ap (λ (k : ℕ). write (write d to p) (to + k) x) (sym (length_read mem (first_at n i) (l - 7))) ∙ sym (write_append d to p x) in
        let both : f ≡ write (write d to p) (to + (l - 7)) o =
        w ∙ ap (λ (k : ℕ). write d to (read mem (first_at n i) k)) r ∙ ap (write d to) (read_add mem (first_at n i) (l - 7) (max (l - 7) 8 - (l - 7))) ∙ sym (apart o) in
        let short : length o ≤ length q = omega (arith, length_read mem (first_at n i + (l - 7)) (max (l - 7) 8 - (l - 7)), length_read mem (last_at n i + 1) 7) in
        record { count = e; bytes = v ∙ ap (λ (x : List ℕ). write x (to + (l - 7)) q) both ∙ over o q (write d to p) (to + (l - 7)) short ∙ apart q ∙ ap (write d to) (sym k) }

pub every_name_short : EveryNameShort
every_name_short n mem i = name_short n mem i _ refl
