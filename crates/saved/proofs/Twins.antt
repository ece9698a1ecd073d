-- Records with one parent and equal names have one key. Assumes nothing.
use Rattle.std.proofs.Common.{◌≡◌, ℕ, ◌+◌, ◌-◌, ◌%◌, ◌^◌, true, false, eqb, List, [], ◌∷◌, ◌++◌, length, refl, sym, ap, ◌∙◌, ap₂, arith, eq-eqb, eqb-true}
use Rattle.std.specs.Cmp.Lexicographic.{pointwise}
use Rattle.rules.specs.Bytes.{Bytes, same}
use Rattle.rules.specs.Fields.{read, value, bytes_of, get}
use Rattle.rules.specs.Saved.{name_length, name_start, saved_node_at, behind}
use Rattle.rules.proofs.Tests.{untrue, and_both}
use Rattle.rules.proofs.Same.{same_eq}
use Rattle.rules.proofs.Fields.{length_read, read_add, bytes_back}
use Rattle.le.proofs.Lens.{read_part}
use Rattle.saved.specs.Scan.{twin}
use Rattle.saved.specs.Kept.{key_at}

-- ---- the test of `is_twin`

same_is : (xs ys : List ℕ) → pointwise eqb xs ys ≡ same xs ys
unfolding same
same_is [] [] = refl
same_is [] (y ∷ ys) = refl
same_is (x ∷ xs) [] = refl
same_is (x ∷ xs) (y ∷ ys) = rw (same_is xs ys)

module _ (b : List ℕ) (p q x y : ℕ) (e : x ≡ (saved_node_at b p).parent) (f : y ≡ (saved_node_at b q).parent) where
  pub other_parent : eqb x y ≡ false → false ≡ twin (saved_node_at b p) (saved_node_at b q)
  unfolding twin
  other_parent h = let g : eqb (saved_node_at b p).parent (saved_node_at b q).parent ≡ false = rw (← e, ← f) h in rw g

  pub by_name : x ≡ y → (m n : List ℕ) → m ≡ (saved_node_at b p).name → n ≡ (saved_node_at b q).name → pointwise eqb m n ≡ twin (saved_node_at b p) (saved_node_at b q)
  unfolding twin
  by_name h m n k l = rw (eq-eqb (saved_node_at b p).parent (saved_node_at b q).parent (sym e ∙ h ∙ f), k, l) (same_is (saved_node_at b p).name (saved_node_at b q).name)

-- ---- the key

-- a record from its parent on, by what it says
tail_of : (b : List ℕ) (at : ℕ) → Bytes b
    → read b (at + 8) (10 + name_length b at) ≡ (bytes_of 8 (saved_node_at b at).parent ++ bytes_of 2 (length (saved_node_at b at).name)) ++ (saved_node_at b at).name
unfolding saved_node_at
tail_of b at h =
    let l : ℕ = name_length b at in
    let e : at + 8 + 10 ≡ at + 18 = omega arith in
    let f : at + 8 + 8 ≡ at + 16 = omega arith in
    let first : read b (at + 8) 10 ≡ read b (at + 8) 8 ++ read b (at + 16) 2 = rw f at (read_add b (at + 8) 8 2) in
    let whole : read b (at + 8) (10 + l) ≡ read b (at + 8) 10 ++ read b (name_start at) l = rw e at (read_add b (at + 8) 10 l) in
    whole ∙ rw (first, ← bytes_back 8 b (at + 8) h, ← bytes_back 2 b (at + 16) h, length_read b (name_start at) l)

-- its last eight bytes are part of that
last_eight : (b : List ℕ) (at : ℕ) → get 8 b (behind b at - 8) ≡ get 8 (read b (at + 8) (10 + name_length b at)) (2 + name_length b at)
unfolding get
last_eight b at =
    let l : ℕ = name_length b at in
    let e : behind b at - 8 ≡ at + 8 + (2 + l) = omega arith in
    ap value (ap (λ (x : ℕ). read b x 8) e ∙ sym (read_part b (at + 8) (10 + l) (2 + l) 8 (omega arith)))

sizes : (b : List ℕ) (p q : ℕ) → (saved_node_at b p).name ≡ (saved_node_at b q).name → name_length b p ≡ name_length b q
unfolding saved_node_at
sizes b p q e = sym (length_read b (name_start p) (name_length b p)) ∙ ap length e ∙ length_read b (name_start q) (name_length b q)

key_same : (b : List ℕ) (p q : ℕ) → Bytes b → twin (saved_node_at b p) (saved_node_at b q) ≡ true → key_at b p ≡ key_at b q
unfolding twin key_at
key_same b p q h t =
    let both = and_both (eqb (saved_node_at b p).parent (saved_node_at b q).parent) (same (saved_node_at b p).name (saved_node_at b q).name) t in
    let parent : (saved_node_at b p).parent ≡ (saved_node_at b q).parent = eqb-true (saved_node_at b p).parent (saved_node_at b q).parent both.0 in
    let name : (saved_node_at b p).name ≡ (saved_node_at b q).name = same_eq (saved_node_at b p).name (saved_node_at b q).name both.1 in
    let size : name_length b p ≡ name_length b q = sizes b p q name in
    let run : read b (p + 8) (10 + name_length b p) ≡ read b (q + 8) (10 + name_length b q) = tail_of b p h ∙ rw (parent, name) (sym (tail_of b q h)) in
    let tail : get 8 b (behind b p - 8) ≡ get 8 b (behind b q - 8) = last_eight b p ∙ rw (run, size) (sym (last_eight b q)) in
    ap₂ (λ (x y : ℕ). (x + y) % 2 ^ 64) parent tail

-- the law: with another key, no twin
pub other_key : (b : List ℕ) (p q : ℕ) → Bytes b → (key_at b p ≡ key_at b q → ⊥) → twin (saved_node_at b p) (saved_node_at b q) ≡ false
other_key b p q h n = untrue (twin (saved_node_at b p) (saved_node_at b q)) (λ t. n (key_same b p q h t))
