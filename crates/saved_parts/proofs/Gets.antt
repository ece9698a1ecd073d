-- The fields of each part, as the code reads them: at places that it reckons, and two of them as one number. Assumes nothing.
use mathlib.Core.Path.{◌≡◌, sym, ap, ◌∙◌}
use mathlib.Core.List.{List}
use Prim.Native.Nat.{ℕ, ◌+◌, ◌-◌, ◌*◌, ◌/◌, ◌^◌, ◌≤◌}
use native.Mathlib.Omega.{arith}
use lib.ListN.{length, take, drop}
use Rattle.rules.specs.Bytes.{Bytes}
use Rattle.rules.specs.Fields.{get, row_length, field_at}
use Rattle.rules.specs.Saved.{options_row, saved_in_opts_field, saved_out_opts_field, saved_internal_field, saved_external_field, saved_range_field, saved_flags_field, saved_zeros_field, trailer_row, trailer_version_field, trailer_zeros_field, tail_length, name_length, name_start, saved_node_at, behind, saved_options_at, options_start, trailer_start, options_field, trailer_field}
use Rattle.rules.proofs.Fields.{read_slice}
use Rattle.rules.proofs.Encoded.{options_start_lem, trailer_start_lem}
use Rattle.le.proofs.Lens.{get_add, get_split}
use Rattle.vfs_options.specs.declared.VfsOptions.{VfsOptions}
use Rattle.vfs_options.specs.Given.{options_in}

-- ---- a record

-- its name, as the part of the bytes that is passed on
pub name_is : (b : List ℕ) (at end : ℕ) → end ≡ behind b at → behind b at ≤ length b → take (end - (name_start at)) (drop (name_start at) b) ≡ (saved_node_at b at).name
unfolding saved_node_at
name_is b at end e h =
    let d : end - (name_start at) ≡ name_length b at = omega arith in
    rw d (sym (read_slice b (name_start at) (name_length b at) (omega arith)))

-- ---- the options

-- they stand in the bytes, and the trailer behind them
pub options_room : (b : List ℕ) (o : ℕ) → tail_length ≤ length b → o ≡ options_start b → o + tail_length ≡ length b
options_room b o h e = omega (arith, options_start_lem b h)

-- flags and three zeros are one number of four bytes
four : (b : List ℕ) (at : ℕ) → get 4 b (at + 28) ≡ field_at options_row saved_flags_field b at + 256 * field_at options_row saved_zeros_field b at
four b at =
    let e : at + 28 + 1 ≡ at + 29 = omega arith in
    let p : get 4 b (at + 28) ≡ get 1 b (at + 28) + 256 ^ 1 * get 3 b (at + 29) = rw e at (get_add 1 3 b (at + 28)) in
    omega arith

pub flags_by : (b : List ℕ) (at r : ℕ) → at ≡ options_start b → r ≡ get 4 b (at + 28) → r ≡ options_field saved_flags_field b + 256 * options_field saved_zeros_field b
flags_by b at r e f = f ∙ ap (λ (n : ℕ). get 4 b (n + 28)) e ∙ four b (options_start b)

pub options_read_lem : (b : List ℕ) (at : ℕ) (r : VfsOptions)
    → r.in_opts ≡ field_at options_row saved_in_opts_field b at
    → r.out_opts ≡ field_at options_row saved_out_opts_field b at
    → r.id_mapping.internal ≡ field_at options_row saved_internal_field b at
    → r.id_mapping.external ≡ field_at options_row saved_external_field b at
    → r.id_mapping.range ≡ field_at options_row saved_range_field b at
    → r.flags ≡ field_at options_row saved_flags_field b at
    → options_in r ≡ saved_options_at b at
unfolding saved_options_at
options_read_lem b at r i u m x g f = λ t. record { in_opts = i t; out_opts = u t; mapping = record { internal = m t; external = x t; range = g t }; flags = f t }

-- ---- the trailer

-- it stands in the bytes
pub trailer_room : (b : List ℕ) (t : ℕ) → row_length trailer_row ≤ length b → t ≡ trailer_start b → t + row_length trailer_row ≡ length b
trailer_room b t h e = omega (arith, trailer_start_lem b h)

-- a field of it
pub trailer_by : (k : ℕ) (b : List ℕ) (t r : ℕ) → t ≡ trailer_start b → r ≡ field_at trailer_row k b t → r ≡ trailer_field k b
trailer_by k b t r e f = f ∙ ap (field_at trailer_row k b) e

-- counter, version and six zeros are one number of eight bytes
eight : (b : List ℕ) (at : ℕ) → Bytes b → get 8 b (at + 16) / 256 ≡ field_at trailer_row trailer_version_field b at + 256 * field_at trailer_row trailer_zeros_field b at
eight b at bytes =
    let e : at + 16 + 1 ≡ at + 17 = omega arith in
    let f : at + 17 + 1 ≡ at + 18 = omega arith in
    (get_split 1 7 b (at + 16) bytes).1 ∙ ap (get 7 b) e ∙ get_add 1 6 b (at + 17) ∙ ap (λ (n : ℕ). get 1 b (at + 17) + 256 * get 6 b n) f

pub version_by : (b : List ℕ) (at x : ℕ) → Bytes b → at ≡ trailer_start b → x ≡ get 8 b (at + 16) → x / 256 ≡ trailer_field trailer_version_field b + 256 * trailer_field trailer_zeros_field b
version_by b at x bytes e f = ap (λ (n : ℕ). n / 256) (f ∙ ap (λ (n : ℕ). get 8 b (n + 16)) e) ∙ eight b (trailer_start b) bytes
