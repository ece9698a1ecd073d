-- Runs of bytes copied: byte by byte, eight as one number, and one over another. Assumes nothing.
use mathlib.Core.Path.{◌≡◌, refl, sym, ap, ◌∙◌}
use mathlib.Core.List.{List, [], ◌∷◌, ◌++◌}
use Prim.Native.Nat.{ℕ, suc, ◌+◌, ◌≤◌, ◌<◌}
use native.Mathlib.Omega.{arith}
use lib.ListN.{length, get_or, set, length-set}
use Rattle.std.proofs.lemmas.List.{set-set, set_comm}
use Rattle.rules.proofs.Fields.{length_read, read_add, bytes_back}
use Rattle.le.specs.Mem.{read, get, put, bytes_of, write, Bytes}
use Rattle.le.proofs.Lens.{write_append}

module _ (mem : List ℕ) (at : ℕ) (src : List ℕ) (from n : ℕ) where
  -- i of n bytes are copied
  abbrev pub Begun : List ℕ → ℕ → Type 0
  Begun d i = (i ≤ n) × ((length d ≡ length mem) × (d ≡ write mem at (read src from i)))

  -- and the next one
  pub next_copied : (d : List ℕ) (i : ℕ) → Begun d i → i < n → Begun (set d (at + i) (get_or src (from + i) 0)) (i + 1)
  unfolding read
  next_copied d i w h =
      let v : ℕ = get_or src (from + i) 0 in
      let step : write mem at (read src from i ++ (v ∷ [])) ≡ set d (at + i) v =
      write_append mem at (read src from i) (v ∷ []) ∙ (λ t. set (sym w.1.1 t) (at + length_read src from i t) v) in
      (omega arith, (length-set d (at + i) v ∙ w.1.0, sym (ap (write mem at) (read_add src from i 1) ∙ step)))

  -- all of them
  pub all_copied : (d : List ℕ) (i : ℕ) → Begun d i → n ≤ i → d ≡ write mem at (read src from n)
  all_copied d i w h =
      let e : i ≡ n = omega arith in
      w.1.1 ∙ rw e

-- eight bytes as one number
pub as_number : (src : List ℕ) → Bytes src → (d : List ℕ) (at from v : ℕ) → v ≡ get 8 src from → put 8 d at v ≡ write d at (read src from 8)
unfolding put
as_number src b d at from v e = ap (λ (x : ℕ). write d at (bytes_of 8 x)) e ∙ ap (write d at) (bytes_back 8 src from b)

-- a byte below what is written
set_below : (a m : List ℕ) (p q y : ℕ) → p < q → set (write m q a) p y ≡ write (set m p y) q a
set_below [] m p q y h = refl
set_below (x ∷ a) m p q y h = set_below a (set m q x) p (suc q) y (omega arith) ∙ ap (λ (z : List ℕ). write z (suc q) a) (set_comm m q p x y (λ e. omega arith))

-- bytes that are written over by as many or more
pub over : (a b m : List ℕ) (p : ℕ) → length a ≤ length b → write (write m p a) p b ≡ write m p b
over [] b m p h = refl
over (x ∷ a) [] m p h = absurd (omega arith)
over (x ∷ a) (y ∷ b) m p h =
    ap (λ (z : List ℕ). write z (suc p) b) (set_below a (set m p x) p (suc p) y (omega arith) ∙ ap (λ (z : List ℕ). write z (suc p) a) (set-set m p x y))
    ∙ over a b (set m p y) (suc p) (omega arith)
