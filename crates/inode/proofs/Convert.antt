-- Conversion by cases; index and number of a converted number are what went in, so that conversion is injective. Assumes nothing.
use mathlib.Core.Path.{◌≡◌, sym, ◌∙◌}
use Rattle.std.specs.Prelude.{Some, Ok, Err}
use Prim.Native.Nat.{ℕ, ◌+◌, ◌*◌, ◌^◌, ◌<◌, ◌≤◌}
use native.Mathlib.Omega.{arith}
use borrow.Author.Tests.{lt-ltb, le-ltb, ne_eqb}
use Rattle.rules.specs.Numbers.{max_ino, full, convert, index_of, number_of}
use Rattle.inode.specs.Converted.{full_of, Converts, EveryConvertedBack, ConvertInjective}
use Rattle.inode.specs.declared.VfsInode.{VfsInode}
use Rattle.rules.specs.declared.codes.VfsError.TheVariants.{Inode}

-- ---- by cases

pub too_big : (i n : ℕ) → max_ino < n → Converts i n (Err Inode)
unfolding convert full_of
too_big i n h = record { full = rw (lt-ltb max_ino n h); code = rw (lt-ltb max_ino n h) }

pub of_zero : (i n : ℕ) (x : VfsInode) → n ≡ 0 → x.0 ≡ 0 → Converts i n (Ok x)
unfolding convert full full_of
of_zero i n x e z = record { full = rw (e, z); code = rw e }

joins : (i n : ℕ) → n ≤ max_ino → (n ≡ 0 → ⊥) → convert i n ≡ Some (i * 2 ^ 56 + n)
unfolding convert full
joins i n h s = rw (le-ltb max_ino n h, ne_eqb n 0 s)

pub joined : (i n : ℕ) (x : VfsInode) → n ≤ max_ino → (n ≡ 0 → ⊥) → x.0 ≡ i * 2 ^ 56 + n → Converts i n (Ok x)
unfolding full_of
joined i n x h s e = record { full = rw (joins i n h s, e); code = rw (le-ltb max_ino n h) }

-- ---- what went in

module _ (i n x : ℕ) (Some-number : 1 ≤ n) (small : n ≤ max_ino) (e : convert i n ≡ Some x) where
  spelt : x ≡ i * 2 ^ 56 + n
  spelt = let j = joins i n small (λ z. omega arith) in cc

  pub index_back : index_of x ≡ i
  unfolding index_of
  index_back = let s = spelt in omega arith

  pub number_back : number_of x ≡ n
  unfolding number_of
  number_back = let s = spelt in omega arith

pub every_back : EveryConvertedBack
every_back i n x a b e = record { index_back = index_back i n x a b e; number_back = number_back i n x a b e }

pub convert_injective : ConvertInjective
convert_injective i n j m a b c d e =
    let x = i * 2 ^ 56 + n in
    let p : convert i n ≡ Some x = joins i n b (λ z. omega arith) in
    let q : convert j m ≡ Some x = sym e ∙ p in
    (sym (index_back i n x a b p) ∙ index_back j m x c d q, sym (number_back i n x a b p) ∙ number_back j m x c d q)
