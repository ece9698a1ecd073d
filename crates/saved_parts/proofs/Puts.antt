-- The fields of each part, put one behind the other, are its bytes. Assumes nothing.
use mathlib.Core.Path.{◌≡◌, sym, ◌∙◌}
use mathlib.Core.List.{List, ◌++◌}
use Prim.Native.Nat.{ℕ, ◌+◌, ◌/◌, ◌%◌, ◌^◌, ◌<◌}
use native.Mathlib.Omega.{arith}
use Rattle.rules.specs.Fields.{bytes_of, fields}
use Rattle.rules.specs.Instance.{Options}
use Rattle.rules.specs.Saved.{head_bytes, options_bytes, trailer_bytes}
use Rattle.le.specs.Mem.{write, put}
use Rattle.le.proofs.Lens.{put_write, put_add}

-- a field, and then the rest
field_put : (w v : ℕ) (mem bs : List ℕ) (at : ℕ) → write mem at (bytes_of w v ++ bs) ≡ write (put w mem at v) (at + w) bs
field_put w v mem bs at = sym (put_write w mem at v bs)

-- ---- a record without its name

pub head_put : (mem : List ℕ) (number parent len : ℕ) → put 2 (put 8 (put 8 mem 0 number) 8 parent) 16 len ≡ write mem 0 (head_bytes number parent len)
unfolding fields
head_put mem number parent len = simp field_put

-- ---- the options

-- the flags and the zeros behind them are one number
flags_put : (mem : List ℕ) (at flags : ℕ) → flags < 256 → put 4 mem at flags ≡ put 3 (put 1 mem at flags) (at + 1) 0
flags_put mem at flags h =
    let low : flags % 256 ^ 1 ≡ flags = omega arith in
    let high : flags / 256 ^ 1 ≡ 0 = omega arith in
    put_add 1 3 mem at flags ∙ rw (low, high)

options_put : (mem : List ℕ) (at : ℕ) (o : Options)
    → put 3 (put 1 (put 4 (put 4 (put 4 (put 8 (put 8 mem at o.in_opts) (at + 8) o.out_opts) (at + 16) o.mapping.internal) (at + 20) o.mapping.external) (at + 24) o.mapping.range) (at + 28) o.flags) (at + 28 + 1) 0
    ≡ write mem at (options_bytes o)
unfolding options_bytes fields
options_put mem at o =
    let e₁ : at + 8 + 8 ≡ at + 16 = omega arith in
    let e₂ : at + 16 + 4 ≡ at + 20 = omega arith in
    let e₃ : at + 20 + 4 ≡ at + 24 = omega arith in
    let e₄ : at + 24 + 4 ≡ at + 28 = omega arith in
    simp (field_put, e₁, e₂, e₃, e₄)

pub options_puts : (mem : List ℕ) (at : ℕ) (o : Options) (e₁ e₂ e₃ e₄ e₅ e₆ : List ℕ) → o.flags < 256 → e₁ ≡ put 8 mem at o.in_opts → e₂ ≡ put 8 e₁ (at + 8) o.out_opts
    → e₃ ≡ put 4 e₂ (at + 16) o.mapping.internal → e₄ ≡ put 4 e₃ (at + 20) o.mapping.external → e₅ ≡ put 4 e₄ (at + 24) o.mapping.range → e₆ ≡ put 4 e₅ (at + 28) o.flags
    → e₆ ≡ write mem at (options_bytes o)
options_puts mem at o e₁ e₂ e₃ e₄ e₅ e₆ h p₁ p₂ p₃ p₄ p₅ p₆ = p₆ ∙ flags_put e₅ (at + 28) o.flags h ∙ rw (p₅, p₄, p₃, p₂, p₁) (options_put mem at o)

-- ---- the trailer

pub trailer_put : (mem : List ℕ) (at offset count next counter : ℕ)
    → put 4 (put 2 (put 1 (put 1 (put 8 (put 4 (put 4 mem at offset) (at + 4) count) (at + 8) next) (at + 16) counter) (at + 17) 1) (at + 18) 0) (at + 20) 0
    ≡ write mem at (trailer_bytes offset count next counter)
unfolding trailer_bytes fields
trailer_put mem at offset count next counter =
    let e₁ : at + 4 + 4 ≡ at + 8 = omega arith in
    let e₂ : at + 8 + 8 ≡ at + 16 = omega arith in
    let e₃ : at + 16 + 1 ≡ at + 17 = omega arith in
    let e₄ : at + 17 + 1 ≡ at + 18 = omega arith in
    let e₅ : at + 18 + 2 ≡ at + 20 = omega arith in
    simp (field_put, e₁, e₂, e₃, e₄, put_add 2 4, e₅)
