-- Bytes written into a list that is made of parts, into a part that was lent, and back to where they were read. Assumes nothing.
use mathlib.Core.Path.{◌≡◌, refl, sym, ap, ◌∙◌}
use mathlib.Core.List.{List, [], ◌∷◌, ◌++◌, append_assoc, append-nil}
use Prim.Native.Nat.{ℕ, zero, suc, ◌+◌, ◌≤◌}
use native.Mathlib.Nat.{add-zero, zero-add, suc-add}
use native.Mathlib.Omega.{arith}
use native.Mathlib.Numerals.{add-one}
use lib.ListN.{length, take, drop, set, length-set, length-append, drop_of_length-le}
use lib.Seq.{sets-eq, set-append_left, set-get_or, length-take-le, take-append_seam}
use borrow.Rule.Slice.PartMut.{put_mid, put_same}
use Rattle.le.specs.Mem.{read, write}

pub write_suc : (x : ℕ) (xs : List ℕ) (at : ℕ) (bs : List ℕ) → write (x ∷ xs) (suc at) bs ≡ x ∷ write xs at bs
write_suc x xs at [] = refl
write_suc x xs at (b ∷ bs) = write_suc x (set xs at b) (suc at) bs

-- into what stands behind p
write_behind : (p m : List ℕ) (at : ℕ) (bs : List ℕ) → write (p ++ m) (length p + at) bs ≡ p ++ write m at bs
write_behind [] m at bs = rw zero-add
write_behind (x ∷ p) m at bs = rw (suc-add, write_suc x (p ++ m) (length p + at) bs, write_behind p m at bs)

-- into what stands in front of q
pub write_before : (m q : List ℕ) (at : ℕ) (bs : List ℕ) → at + length bs ≤ length m → write (m ++ q) at bs ≡ write m at bs ++ q
write_before m q at [] h = refl
write_before m q at (b ∷ bs) h =
    let l : length (set m at b) ≡ length m = length-set m at b in
    rw (set-append_left m q at b (omega arith)) (write_before (set m at b) q (suc at) bs (omega arith))

-- at the start: the later bytes keep what they held
pub write_over : (d bs : List ℕ) → length bs ≤ length d → write d 0 bs ≡ bs ++ drop (length bs) d
write_over d bs h = rw (sets-eq bs d 0 (omega arith), zero-add)

-- and these are there to be read
pub take_write : (d bs : List ℕ) → length bs ≤ length d → take (length bs) (write d 0 bs) ≡ bs
take_write d bs h = rw (write_over d bs h) (take-append_seam bs (drop (length bs) d))

-- every byte anew
write_all : (m bs : List ℕ) → length bs ≡ length m → write m 0 bs ≡ bs
write_all m bs e = write_over m bs (omega arith) ∙ rw (drop_of_length-le m {i = length bs} (omega arith), append-nil)

-- the first of them once more
pub write_front : (d f g t : List ℕ) → length f ≡ length g → length (f ++ t) ≤ length d → write (write d 0 (f ++ t)) 0 g ≡ write d 0 (g ++ t)
write_front d f g t l h =
    let rest : List ℕ = drop (length (f ++ t)) d in
    let m : length (f ++ t) ≡ length (g ++ t) = length-append f t ∙ ap (λ (k : ℕ). k + length t) l ∙ sym (length-append g t) in
    ap (λ (x : List ℕ). write x 0 g) (write_over d (f ++ t) h ∙ append_assoc f t rest) ∙ write_before f (t ++ rest) 0 g (omega arith)
    ∙ ap (λ (x : List ℕ). x ++ (t ++ rest)) (write_all f g (sym l))
    ∙ sym (write_over d (g ++ t) (omega arith) ∙ ap (λ (k : ℕ). (g ++ t) ++ drop k d) (sym m) ∙ append_assoc g t rest)

-- what was read there
pub write_read : (d : List ℕ) (at k : ℕ) → write d at (read d at k) ≡ d
unfolding read
write_read d at zero = refl
write_read d at (suc k) = ap (λ (m : List ℕ). write m (suc at) (read d (at + 1) k)) (set-get_or d at 0) ∙ rw (← add-one at) (write_read d (at + 1) k)

-- into the k bytes from a place on, which were lent and are back
pub write_part : (d : List ℕ) (at k : ℕ) (bs : List ℕ) → at ≤ length d → length bs ≤ length (take k (drop at d))
    → put_mid at k d (write (take k (drop at d)) 0 bs) ≡ write d at bs
write_part d at k bs h g =
    let part : List ℕ = take k (drop at d) in
    let rest : List ℕ = drop k (drop at d) in
    let l : length (take at d) + 0 ≡ at = add-zero (length (take at d)) ∙ length-take-le at d h in
    sym
    (ap (λ (m : List ℕ). write m at bs) (sym (put_same at k d)) ∙ ap (λ (n : ℕ). write (take at d ++ (part ++ rest)) n bs) (sym l)
    ∙ write_behind (take at d) (part ++ rest) 0 bs ∙ ap (λ (m : List ℕ). take at d ++ m) (write_before part rest 0 bs (omega arith)))
